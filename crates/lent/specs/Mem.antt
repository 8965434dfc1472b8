-- Lent bytes as regions of numbered slots, each of some 16-bit fields: what a load gives and what a store makes of the bytes.
-- Assumes nothing.
use Rattle.std.specs.Prelude.{ℕ, ◌+◌, ◌*◌, ◌/◌, ◌%◌, min, Bool, cond, List, get_or, set, length, eqb, ltb}

-- the 16-bit number at byte i, low byte first; a byte past the end is 0
unfoldable pub get16 : List ℕ → ℕ → ℕ
get16 m i = get_or m i 0 + get_or m (i + 1) 0 * 256

-- the bytes with v there; a byte past the end is not stored
unfoldable pub put16 : List ℕ → ℕ → ℕ → List ℕ
put16 m i v = set (set m i (v % 256)) (i + 1) (v / 256)

-- the three regions: 4,096 nodes and 8,192 pieces, of which slot 0 is none and never used, and 4,096 pairs, numbered from 0
pub data Region : Type 0 where
  NODES : Region
  PIECES : Region
  PAIRS : Region

-- how many fields a slot has, and how many slots there are at most
abbrev pub width : Region → ℕ
width NODES = 16
width PIECES = 2
width PAIRS = 2

abbrev pub most : Region → ℕ
most NODES = 4097
most PIECES = 8193
most PAIRS = 4096

-- how many slots the lent bytes hold
unfoldable pub slots : Region → List ℕ → ℕ
slots r m = min (length m / (width r * 2)) (most r)

-- slot n is one of them
unfoldable pub inside : Region → List ℕ → ℕ → Bool
inside r m n = ltb n (slots r m)

-- where field f of slot n begins
unfoldable pub place : Region → ℕ → ℕ → ℕ
place r n f = (n * width r + f) * 2

-- field f of slot n, 0 outside; and the bytes with v there, as they were outside
unfoldable pub load : Region → List ℕ → ℕ → ℕ → ℕ
load r m n f = cond (inside r m n) (get16 m (place r n f)) 0

unfoldable pub store : Region → List ℕ → ℕ → ℕ → ℕ → List ℕ
store r m n f v = cond (inside r m n) (put16 m (place r n f) v) m

-- the fields of a node
abbrev pub KIND : ℕ
KIND = 0

abbrev pub PARENT : ℕ
PARENT = 1

abbrev pub PREV : ℕ
PREV = 2

abbrev pub NEXT : ℕ
NEXT = 3

abbrev pub FIRST : ℕ
FIRST = 4

abbrev pub LAST : ℕ
LAST = 5

-- an HTML template's contents; of contents, the template
abbrev pub TIE : ℕ
TIE = 6

abbrev pub SPACE : ℕ
SPACE = 7

-- an element's name; a comment's number
abbrev pub NAME : ℕ
NAME = 8

abbrev pub MARK : ℕ
MARK = 9

-- an element's attributes: the first pair, and how many
abbrev pub START : ℕ
START = 10

abbrev pub COUNT : ℕ
COUNT = 11

-- a text node's first and last piece
abbrev pub PIECE : ℕ
PIECE = 12

abbrev pub END : ℕ
END = 13

-- what a node is
abbrev pub DOCUMENT : ℕ
DOCUMENT = 1

abbrev pub ELEMENT : ℕ
ELEMENT = 2

abbrev pub TEXT : ℕ
TEXT = 3

abbrev pub COMMENT : ℕ
COMMENT = 4

abbrev pub CONTENTS : ℕ
CONTENTS = 5

-- field f of node n, and the bytes with v there
abbrev pub field : List ℕ → ℕ → ℕ → ℕ
field m n f = load NODES m n f

abbrev pub put_field : List ℕ → ℕ → ℕ → ℕ → List ℕ
put_field m n f v = store NODES m n f v

-- a link that may be none: where node n is none the field f of node p, else the field g of n
unfoldable pub link : List ℕ → ℕ → ℕ → ℕ → ℕ → ℕ → List ℕ
link m n f p g v = cond (eqb n 0) (put_field m p f v) (put_field m n g v)

-- up from n: from contents to their template, else to the parent
unfoldable pub up : List ℕ → ℕ → ℕ
up m n = cond (eqb (field m n KIND) CONTENTS) (field m n TIE) (field m n PARENT)
