-- What a used node must be, by its kind. m is the nodes' bytes, q the pairs', c and u how many nodes and pairs are used.
-- In a used node each field that its kind does not use is 0; fields 14 and 15 are spare, and are not looked at.
-- Assumes nothing.
use Rattle.std.specs.Prelude.{◌≡◌, true, ◌≢◌, List, ℕ, ◌+◌, ◌≤◌, ◌<◌}
use Rattle.lent.specs.Mem.{field, load, PAIRS, KIND, PARENT, FIRST, TIE, SPACE, NAME, MARK, START, COUNT, PIECE, DOCUMENT, ELEMENT, TEXT, COMMENT, CONTENTS}
use Rattle.names.specs.Numbers.{is_name}
use Rattle.names.specs.Space as space
use Rattle.names.specs.Tag as tag

-- the first field that no kind uses
abbrev pub SPARE : ℕ
SPARE = 14

-- the name of pair n
abbrev pub name_of : List ℕ → ℕ → ℕ
name_of q n = load PAIRS q n 0

-- node x is an HTML `template`
pub record Template (m : List ℕ) (x : ℕ) : Type 0 where
  pub kind : field m x KIND ≡ ELEMENT
  pub space : field m x SPACE ≡ space.html
  pub name : field m x NAME ≡ tag.template

-- the fields of node x from a on, below b, are 0
pub record Clear (m : List ℕ) (x a b : ℕ) : Type 0 where
  pub zero : (f : ℕ) → a ≤ f → f < b → field m x f ≡ 0

-- node x is tied to a used node, and that one to x
pub record Partner (m : List ℕ) (c x : ℕ) : Type 0 where
  pub some : field m x TIE ≢ 0
  pub used : field m x TIE ≤ c
  pub back : field m (field m x TIE) TIE ≡ x

-- pair s + i has a name that no pair from s on before it has
pub record Absent (q : List ℕ) (s i : ℕ) : Type 0 where
  pub none : (j : ℕ) → j < i → name_of q (s + j) ≢ name_of q (s + i)

-- no two of the k pairs from s on have the same name
pub record Distinct (q : List ℕ) (s k : ℕ) : Type 0 where
  pub apart : (i j : ℕ) → i < j → j < k → name_of q (s + i) ≢ name_of q (s + j)

-- an element's attributes: at most 16, all of them used pairs, no name twice
pub record Span (m q : List ℕ) (u x : ℕ) : Type 0 where
  pub few : field m x COUNT ≤ 16
  pub used : field m x START + field m x COUNT ≤ u
  pub distinct : Distinct q (field m x START) (field m x COUNT)

-- a namespace, a name and a mark that an element or the fragment context may have: the namespace is one of the three, the
-- name is the table's or the host's, and only a MathML `annotation-xml` may be marked
pub record Tag (ns name mark : ℕ) : Type 0 where
  pub spaced : ns < space.limit
  pub named : is_name name ≡ true
  pub marked : mark ≢ 0 → (mark ≡ 1) × (ns ≡ space.mathml) × (name ≡ tag.annotation_xml)

-- an HTML `template` has a contents node of its own, and any other element has none
pub record Ties (m : List ℕ) (c x : ℕ) : Type 0 where
  pub tied : Template m x → Partner m c x × (field m (field m x TIE) KIND ≡ CONTENTS)
  pub untied : ¬ Template m x → field m x TIE ≡ 0

-- an element whose parent is the document is the root
pub record Rooted (m : List ℕ) (x : ℕ) : Type 0 where
  pub root : field m x PARENT ≡ 1 → x ≡ 2

-- an element: no pieces
pub record Element (m q : List ℕ) (c u x : ℕ) : Type 0 where
  pub tag : Tag (field m x SPACE) (field m x NAME) (field m x MARK)
  pub span : Span m q u x
  pub ties : Ties m c x
  pub rooted : Rooted m x
  pub clear : Clear m x PIECE SPARE

-- contents: in no list of children, and those of an HTML `template`; besides their own children they have nothing
pub record Contents (m : List ℕ) (c x : ℕ) : Type 0 where
  pub parent : field m x PARENT ≡ 0
  pub partner : Partner m c x
  pub host : Template m (field m x TIE)
  pub clear : Clear m x SPACE SPARE

-- the document: node 1, without a parent, and with nothing but children
pub record Document (m : List ℕ) (x : ℕ) : Type 0 where
  pub one : x ≡ 1
  pub parent : field m x PARENT ≡ 0
  pub clear : Clear m x TIE SPARE

-- a comment: its number stands where an element's name stands; no children
pub record Comment (m : List ℕ) (x : ℕ) : Type 0 where
  pub front : Clear m x FIRST NAME
  pub back : Clear m x MARK SPARE

-- node x is one of the five kinds, and what that kind must be; a text node has pieces and no children
pub record Kind (m q : List ℕ) (c u x : ℕ) : Type 0 where
  pub known : (1 ≤ field m x KIND) × (field m x KIND ≤ 5)
  pub document : field m x KIND ≡ DOCUMENT → Document m x
  pub element : field m x KIND ≡ ELEMENT → Element m q c u x
  pub text : field m x KIND ≡ TEXT → Clear m x FIRST PIECE
  pub comment : field m x KIND ≡ COMMENT → Comment m x
  pub contents : field m x KIND ≡ CONTENTS → Contents m c x
