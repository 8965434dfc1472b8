-- The same lines by cursors, and what a dump goes through: from the first line to the next one, and so on until there is none.
-- Assumes nothing.
use Rattle.std.specs.Prelude.{ℕ, zero, suc, ◌+◌, ◌-◌, ◌≢◌, cond, List, [], ◌∷◌, ◌++◌, eqb}
use Rattle.lent.specs.Mem.{field, KIND, TIE, COUNT, CONTENTS}
use Rattle.state.specs.Full.{Full}
use Rattle.kept.specs.Tree.{under}
use Rattle.dump.specs.declared.Cursor.{Cursor}
use Rattle.dump.specs.Line.{line_of}
use Rattle.dump.specs.Order.{own_line, first_line, next_line}
use Rattle.shown.specs.Lines.{every}

-- a part of node n, which is at level l
abbrev pub part_line : ℕ → ℕ → ℕ → Cursor
part_line n l i = record { node = n; level = l; part = i }

-- the line of contents at level l is a part of their template, which is one level up: the one after the attributes
abbrev pub content_line : List ℕ → ℕ → ℕ → Cursor
content_line m l t = part_line t (l - 1) (field m t COUNT + 1)

-- k parts of node n from part i on
unfoldable pub parts : ℕ → ℕ → ℕ → ℕ → List Cursor
parts n l i zero = []
parts n l i (suc k) = part_line n l i ∷ parts n l (i + 1) k

-- node n alone, at level l: its own line and its attributes; or the line of contents
unfoldable pub cursors_here : List ℕ → ℕ → ℕ → List Cursor
cursors_here m l n =
    cond (eqb (field m n KIND) CONTENTS) (content_line m l (field m n TIE) ∷ []) (own_line n l ∷ parts n l 1 (field m n COUNT))

-- node n and all that is below it, going down fewer than k times
unfoldable pub cursors_of : List ℕ → ℕ → ℕ → ℕ → List Cursor
cursors_of m zero l n = []
cursors_of m (suc k) l n = cursors_here m l n ++ every (cursors_of m k (suc l)) (under m n)

unfoldable pub tree_cursors : List ℕ → List Cursor
tree_cursors m = every (cursors_of m 4095 0) (under m 1)

-- going on from c by `next_line`, the lines cs are met, and then e is
pub data Goes (m : List ℕ) : Cursor → List Cursor → Cursor → Type 0 where
  none : {c : Cursor} → Goes m c [] c
  more : {c e : Cursor} {cs : List Cursor} → c.node ≢ 0 → Goes m (next_line m c) cs e → Goes m c (c ∷ cs) e

-- the lines of a dump from the one at c on, as bytes, k of them at most: it ends where there is no node
unfoldable pub dumped : List ℕ → List ℕ → List ℕ → ℕ → Cursor → List (List ℕ)
dumped m p q zero c = []
dumped m p q (suc k) c = cond (eqb c.node 0) [] (line_of m p q c ∷ dumped m p q k (next_line m c))

abbrev pub dump_of : Full → ℕ → List (List ℕ)
dump_of f k = dumped f.nodes.mem f.pieces.mem f.pairs.mem k (first_line f.nodes.mem)

-- the nodes whose own lines are among cs
unfoldable pub own_nodes : List Cursor → List ℕ
own_nodes [] = []
own_nodes (c ∷ cs) = cond (eqb c.part 0) (c.node ∷ own_nodes cs) (own_nodes cs)

-- the nodes of xs that are not contents
unfoldable pub without_contents : List ℕ → List ℕ → List ℕ
without_contents m [] = []
without_contents m (x ∷ xs) = cond (eqb (field m x KIND) CONTENTS) (without_contents m xs) (x ∷ without_contents m xs)
