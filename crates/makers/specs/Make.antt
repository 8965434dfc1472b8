-- What making a node, a text piece and an attribute pair makes of the lent bytes. A new node has no parent, no siblings and no children.
-- Assumes nothing.
use Rattle.std.specs.Prelude.{ℕ, Bool, cond, ◌&&◌, List, eqb}
use Rattle.names.specs.Tag as tag
use Rattle.lent.specs.Mem.{PIECES, PAIRS, store, field, put_field, KIND, PARENT, PREV, NEXT, FIRST, LAST, TIE, SPACE, NAME, MARK, START, COUNT, PIECE, END, DOCUMENT, ELEMENT, TEXT, COMMENT, CONTENTS}
use Rattle.lent.specs.Room.{fresh}
use Rattle.makers.specs.declared.make.Tag.{Tag}

-- no parent, siblings, children, contents
unfoldable pub bare_links : List ℕ → ℕ → List ℕ
bare_links m n =
    put_field (put_field (put_field (put_field (put_field (put_field m n PARENT 0) n PREV 0) n NEXT 0) n FIRST 0) n LAST 0) n TIE 0

-- no namespace, name, mark, attributes, pieces
unfoldable pub bare_rest : List ℕ → ℕ → List ℕ
bare_rest m n =
    put_field (put_field (put_field (put_field (put_field (put_field (put_field m n SPACE 0) n NAME 0) n MARK 0) n START 0) n COUNT 0) n PIECE 0) n END 0

-- node n is of this kind, and nothing else
unfoldable pub bare : List ℕ → ℕ → ℕ → List ℕ
bare m n kind = bare_rest (bare_links (put_field m n KIND kind) n) n

-- an element's namespace, name and mark, and its attributes: the first pair, and how many
unfoldable pub tagged : List ℕ → ℕ → Tag → List ℕ
tagged m n t =
    put_field (put_field (put_field (put_field (put_field m n SPACE t.space) n NAME t.name) n MARK t.mark) n START t.start) n COUNT t.count

unfoldable pub tag_of : List ℕ → ℕ → Tag
tag_of m n =
    record { space = field m n SPACE; name = field m n NAME; mark = field m n MARK; start = field m n START; count = field m n COUNT }

-- an HTML `template`
unfoldable pub is_template : Tag → Bool
is_template t = eqb t.space 0 && eqb t.name tag.template

unfoldable pub plain : List ℕ → ℕ → Tag → List ℕ
plain m n t = tagged (bare m n ELEMENT) n t

-- n and c name each other: a template and its contents
unfoldable pub tied : List ℕ → ℕ → ℕ → List ℕ
tied m n c = put_field (put_field m n TIE c) c TIE n

-- how many nodes an element takes
unfoldable pub nodes_of : Tag → ℕ
nodes_of t = cond (is_template t) 2 1

-- node n is an element; the contents of an HTML `template` are the node after it
unfoldable pub element : List ℕ → ℕ → Tag → List ℕ
element m n t = cond (is_template t) (tied (bare (plain m n t) (fresh n) CONTENTS) n (fresh n)) (plain m n t)

-- c is an element with the tag of n
unfoldable pub copied : List ℕ → ℕ → ℕ → List ℕ
copied m c n = plain m c (tag_of m n)

unfoldable pub document : List ℕ → ℕ → List ℕ
document m n = bare m n DOCUMENT

unfoldable pub comment : List ℕ → ℕ → ℕ → List ℕ
comment m n number = put_field (bare m n COMMENT) n NAME number

-- piece i holds this text number, and no piece comes after it
unfoldable pub piece : List ℕ → ℕ → ℕ → List ℕ
piece p i number = store PIECES (store PIECES p i 0 number) i 1 0

-- text node n has the piece i alone
unfoldable pub text : List ℕ → ℕ → ℕ → List ℕ
text m n i = put_field (put_field (bare m n TEXT) n PIECE i) n END i

-- piece i, new, comes after piece e, the last so far of a text node
unfoldable pub piece_after : List ℕ → ℕ → ℕ → ℕ → List ℕ
piece_after p e i number = store PIECES (piece p i number) e 1 i

-- pair i is this name and this text number
unfoldable pub pair : List ℕ → ℕ → ℕ → ℕ → List ℕ
pair q i name value = store PAIRS (store PAIRS q i 0 name) i 1 value
