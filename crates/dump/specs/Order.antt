-- Which line comes first, and which comes after a line: document order.
-- Assumes nothing.
use Rattle.std.specs.Prelude.{ℕ, zero, suc, ◌+◌, ◌-◌, min, cond, List, eqb, leb, ltb}
use Rattle.lent.specs.Mem.{field, up, KIND, NEXT, FIRST, TIE, COUNT, CONTENTS}
use Rattle.dump.specs.declared.Cursor.{Cursor}

-- the own line of node n, at level l
abbrev pub own_line : ℕ → ℕ → Cursor
own_line n l = record { node = n; level = l; part = 0 }

-- no more lines
abbrev pub no_line : Cursor
no_line = own_line 0 0

-- one level down; no tree of 4,096 nodes has 65,535 levels
unfoldable pub level_down : ℕ → ℕ
level_down l = min (l + 1) 65535

-- the document has no line of its own: its first child has the first one
unfoldable pub first_line : List ℕ → Cursor
first_line m = own_line (field m 1 FIRST) 0

-- how many lines a node has between its own and those of its children: its attributes, and `content` where it has contents
unfoldable pub extra_lines : List ℕ → ℕ → ℕ
extra_lines m n = field m n COUNT + cond (eqb (field m n TIE) 0) 0 1

-- the first child of a node's contents, 0 where there is none
unfoldable pub first_inside : List ℕ → ℕ → ℕ
first_inside m n = cond (eqb (field m n TIE) 0) 0 (field m (field m n TIE) FIRST)

-- what stands beside n after all that is inside n: after contents their template's own first child, after anything else the next sibling
unfoldable pub beside : List ℕ → ℕ → ℕ
beside m n = cond (eqb (field m n KIND) CONTENTS) (field m (field m n TIE) FIRST) (field m n NEXT)

-- the line after all that is inside n, which is at level l: what stands beside n, or beside the nearest node above it that has
-- something there, looked for in k nodes at most. At the document, node 1, there is none
unfoldable pub line_beside : List ℕ → ℕ → ℕ → ℕ → Cursor
line_beside m zero n l = no_line
line_beside m (suc k) n l =
    cond (leb n 1) no_line
    (cond (eqb (beside m n) 0) (line_beside m k (up m n) (l - 1)) (own_line (beside m n) l))

-- the line after a node's own and its extra ones: its contents' first child two levels down, else its own first child one level down,
-- else what comes after it. 4,096 is the largest number of nodes
unfoldable pub line_inside : List ℕ → ℕ → ℕ → Cursor
line_inside m n l =
    cond (eqb (first_inside m n) 0)
    (cond (eqb (field m n FIRST) 0) (line_beside m 4096 n l) (own_line (field m n FIRST) (level_down l)))
    (own_line (first_inside m n) (level_down (level_down l)))

-- the line after the one at c: the node's next part, else what is inside it
unfoldable pub next_line : List ℕ → Cursor → Cursor
next_line m c =
    cond (eqb c.node 0) no_line
    (cond (ltb c.part (extra_lines m c.node)) (record { node = c.node; level = c.level; part = c.part + 1 })
    (line_inside m c.node c.level))
