-- The lines that a dump of a tree shows, as bytes, in document order: below an element first each attribute, then `content` for a
-- template's contents, then children. `under` has the order: of a template its contents, and then its children.
-- Assumes nothing.
use Rattle.std.specs.Prelude.{ℕ, zero, suc, ◌≤◌, cond, List, [], ◌∷◌, ◌++◌, eqb, length}
use Rattle.names.specs.Text.{text}
use Rattle.lent.specs.Mem.{field, KIND, START, COUNT, PIECE, ELEMENT, TEXT, COMMENT, CONTENTS}
use Rattle.state.specs.Full.{Full}
use Rattle.kept.specs.Tree.{under}
use Rattle.dump.specs.Line.{indent, element_of, text_of, comment_of, pair_of}

-- what f gives for each of xs, one behind the other
unfoldable pub every : {A : Type 0} → (ℕ → List A) → List ℕ → List A
every f [] = []
every f (x ∷ xs) = f x ++ every f xs

-- a thing at level l: `| `, two spaces per level, the thing, LF
abbrev pub line_at : ℕ → List ℕ → List ℕ
line_at l thing = text "| " ++ (indent l ++ (thing ++ 10 ∷ []))

-- k attributes at level l, the first of them pair i
unfoldable pub attribute_lines : List ℕ → ℕ → ℕ → ℕ → List (List ℕ)
attribute_lines q l i zero = []
attribute_lines q l i (suc k) = line_at l (pair_of q i) ∷ attribute_lines q l (suc i) k

-- node n alone, at level l: an element and then its attributes, one level below it; a text; a comment; a template's contents
unfoldable pub lines_here : List ℕ → List ℕ → List ℕ → ℕ → ℕ → List (List ℕ)
lines_here m p q l n =
    cond (eqb (field m n KIND) ELEMENT) (line_at l (element_of m n) ∷ attribute_lines q (suc l) (field m n START) (field m n COUNT))
    (cond (eqb (field m n KIND) TEXT) (line_at l (text_of p (field m n PIECE)) ∷ [])
    (cond (eqb (field m n KIND) COMMENT) (line_at l (comment_of m n) ∷ [])
    (cond (eqb (field m n KIND) CONTENTS) (line_at l (text "content") ∷ []) [])))

-- node n and all that is below it, each thing one level below what it is in, going down fewer than k times
unfoldable pub lines_of : List ℕ → List ℕ → List ℕ → ℕ → ℕ → ℕ → List (List ℕ)
lines_of m p q zero l n = []
lines_of m p q (suc k) l n = lines_here m p q l n ++ every (lines_of m p q k (suc l)) (under m n)

-- the whole tree: what is in the document is at level 0, and the document itself has no line. 4,096 is the largest number of nodes
unfoldable pub tree_lines : List ℕ → List ℕ → List ℕ → List (List ℕ)
tree_lines m p q = every (lines_of m p q 4095 0) (under m 1)

abbrev pub lines_in : Full → List (List ℕ)
lines_in f = tree_lines f.nodes.mem f.pieces.mem f.pairs.mem

-- each of these lines fits in 65,536 bytes
abbrev pub Fit : List (List ℕ) → Type 0
Fit [] = Unit {0}
Fit (x ∷ xs) = (length x ≤ 65536) × Fit xs
