-- A line of the dump, as bytes: `| `, two spaces for each level, the thing, LF.
-- Assumes nothing.
use Rattle.std.specs.Prelude.{ℕ, zero, suc, ◌+◌, ◌-◌, cond, List, [], ◌∷◌, ◌++◌, eqb, leb}
use Rattle.names.specs.Numbers.{bytes_of, host}
use Rattle.names.specs.Space as space
use Rattle.names.specs.Text.{text}
use Rattle.lent.specs.Mem.{PIECES, PAIRS, load, field, KIND, SPACE, NAME, START, COUNT, PIECE, ELEMENT, TEXT, COMMENT}
use Rattle.dump.specs.Digits.{digits}
use Rattle.dump.specs.declared.Cursor.{Cursor}

-- the fields of a piece: its text number, and the piece after it
abbrev pub NUMBER : ℕ
NUMBER = 0

abbrev pub FOLLOWING : ℕ
FOLLOWING = 1

-- the fields of an attribute pair: the name, and the text number
abbrev pub LABEL : ℕ
LABEL = 0

abbrev pub VALUE : ℕ
VALUE = 1

-- two spaces for each level
unfoldable pub indent : ℕ → List ℕ
indent zero = []
indent (suc k) = indent k ++ text "  "

-- a text number, as `#7`
unfoldable pub text_number : ℕ → List ℕ
text_number n = text "#" ++ digits n

-- an element's name: the table's bytes, or the number of a host name, as `?600`
unfoldable pub name_of : ℕ → List ℕ
name_of n = cond (leb host n) (text "?" ++ digits n) (bytes_of n)

-- what stands before the name: nothing in HTML
unfoldable pub space_of : ℕ → List ℕ
space_of s = cond (eqb s space.svg) (text "svg ") (cond (eqb s space.mathml) (text "math ") [])

-- an element, as `<b>`, `<svg title>`
unfoldable pub element_of : List ℕ → ℕ → List ℕ
element_of m n = text "<" ++ (space_of (field m n SPACE) ++ (name_of (field m n NAME) ++ text ">"))

-- a comment, as `<!-- #5 -->`
unfoldable pub comment_of : List ℕ → ℕ → List ℕ
comment_of m n = text "<!-- " ++ (text_number (field m n NAME) ++ text " -->")

-- the pieces from i on, k of them at most, each with a space before it
unfoldable pub further : List ℕ → ℕ → ℕ → List ℕ
further p zero i = []
further p (suc k) i = cond (eqb i 0) [] (text " " ++ (text_number (load PIECES p i NUMBER) ++ further p k (load PIECES p i FOLLOWING)))

-- the pieces of a text from its first one, i, on, as `#1 #2`: 8,192 is the largest number of pieces
unfoldable pub text_of : List ℕ → ℕ → List ℕ
text_of p i = cond (eqb i 0) [] (text_number (load PIECES p i NUMBER) ++ further p 8191 (load PIECES p i FOLLOWING))

-- what a node is, in words of the dump; document and contents have none
unfoldable pub node_of : List ℕ → List ℕ → ℕ → List ℕ
node_of m p n =
    cond (eqb (field m n KIND) ELEMENT) (element_of m n)
    (cond (eqb (field m n KIND) TEXT) (text_of p (field m n PIECE))
    (cond (eqb (field m n KIND) COMMENT) (comment_of m n) []))

-- attribute pair i, as `@12=#7`
unfoldable pub pair_of : List ℕ → ℕ → List ℕ
pair_of q i = text "@" ++ (digits (load PAIRS q i LABEL) ++ (text "=" ++ text_number (load PAIRS q i VALUE)))

-- part 0 is the node itself; then come its attributes, counted from 1, and then the line `content`
unfoldable pub part_of : List ℕ → List ℕ → List ℕ → Cursor → List ℕ
part_of m p q c =
    cond (eqb c.part 0) (node_of m p c.node)
    (cond (leb c.part (field m c.node COUNT)) (pair_of q (field m c.node START + (c.part - 1))) (text "content"))

-- attributes and `content` stand one level below their element
unfoldable pub level_of : Cursor → ℕ
level_of c = cond (eqb c.part 0) c.level (suc c.level)

-- the whole line; 10 is LF
unfoldable pub line_of : List ℕ → List ℕ → List ℕ → Cursor → List ℕ
line_of m p q c = text "| " ++ (indent (level_of c) ++ (part_of m p q c ++ 10 ∷ []))
