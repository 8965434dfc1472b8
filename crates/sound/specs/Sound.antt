-- A sound state, rule by rule: what the state check says yes to, and nothing else.
-- The lent bytes are m (nodes), p (pieces) and q (pairs), and c, v and u are how many of them are used.
-- The places are l (open elements), f (formatting list) and t (template modes), and d, k and s are how many of them are used.
-- Nodes and pieces are numbered from 1, and 0 is none; pairs and places are numbered from 0. What lies past the counts is not looked at.
-- Assumes nothing.
use Rattle.std.specs.Prelude.{◌≡◌, true, ◌≢◌, List, ℕ, ◌+◌, ◌*◌, ◌≤◌, ◌<◌, length, take, None, Option, Some}
use Rattle.lent.specs.Mem.{field, up, KIND, PARENT, SPACE, NAME, DOCUMENT, ELEMENT}
use Rattle.names.specs.Numbers.{is_name}
use Rattle.names.specs.Sets.{is_in, Formatting}
use Rattle.names.specs.Space as space
use Rattle.names.specs.Tag as tag
use Rattle.theory.specs.Fn.{at}
use Rattle.theory.specs.Natural.{Natural}
use Rattle.links.specs.Links.{Children}
use Rattle.nodes.specs.Nodes.{Kind, Tag, name_of}
use Rattle.texts.specs.Words.{Words}
use Rattle.state.specs.declared.Context.{Context}

-- ---- counts

-- No more nodes, pieces and pairs are used than there may be, and each used one lies in the lent bytes. A node takes 32 bytes,
-- a piece and a pair 4 each; number 0 of the nodes and of the pieces lies before the first. Where no piece is used, no byte is
-- asked for.
pub record Sizes (m p q : List ℕ) (c v u : ℕ) : Type 0 where
  pub nodes : (c ≤ 4096) × ((c + 1) * 32 ≤ length m)
  pub pieces : (v ≤ 8192) × (0 < v → (v + 1) * 4 ≤ length p)
  pub pairs : (u ≤ 4096) × (u * 4 ≤ length q)

-- The same for the places.
pub record Places (l f t : List ℕ) (d k s : ℕ) : Type 0 where
  pub stack : (d ≤ 512) × (d ≤ length l)
  pub entries : (k ≤ 256) × (k ≤ length f)
  pub modes : (s ≤ 64) × (s ≤ length t)

-- ---- nodes and pairs

-- Each used node is what its kind asks for: `Nodes` has these rules. Among them: only node 1 is a document, and it has no
-- parent; contents have no parent, so they are in no list of children; text and comments have no children; an HTML
-- `template`, and nothing else, has contents, one node and its own; namespaces, names and marks are allowed ones; an
-- attribute span is at most 16 used pairs with no name twice; of all elements only the root has the document as parent.
pub record Kinds (m q : List ℕ) (c u : ℕ) : Type 0 where
  pub kind : (x : ℕ) → 0 < x → x ≤ c → Kind m q c u x

-- Each used pair has a known name, also one that no element has.
pub record Known (q : List ℕ) (u : ℕ) : Type 0 where
  pub name : (i : ℕ) → i < u → is_name (name_of q i) ≡ true

-- Node 1 is the document. Node 2 is the root: an HTML `html`, and a child of the document.
pub record Top (m : List ℕ) (c : ℕ) : Type 0 where
  pub two : 2 ≤ c
  pub document : field m 1 KIND ≡ DOCUMENT
  pub element : field m 2 KIND ≡ ELEMENT
  pub space : field m 2 SPACE ≡ space.html
  pub name : field m 2 NAME ≡ tag.html
  pub parent : field m 2 PARENT ≡ 1

-- ---- open elements

-- One element at least is open, the first is the root, and all are elements.
pub record Open (m l : List ℕ) (d : ℕ) : Type 0 where
  pub some : 0 < d
  pub root : at l 0 ≡ 2
  pub elements : (i : ℕ) → i < d → field m (at l i) KIND ≡ ELEMENT

-- Nodes, pairs and open elements together.
pub record Tree (m q l : List ℕ) (c u d : ℕ) : Type 0 where
  -- each used node has a list of children that its links make, to and fro, and a node that has a parent is in that one's list;
  -- a node that has none has no siblings; every link leads to a used node, or is 0
  pub children : Children m c
  -- each used node is what its kind asks for
  pub kinds : Kinds m q c u
  -- each used pair has a known name
  pub names : Known q u
  -- the document and the root
  pub top : Top m c
  -- going up, from contents to their template and else to the parent, ends; open elements are used nodes, no two are the
  -- same, and none is an ancestor of one that was opened before it
  pub order : Natural (up m) c (take d l)
  -- open elements are elements, and the first is the root
  pub stack : Open m l d

-- ---- formatting list

-- the entry that is a marker
abbrev pub MARKER : ℕ
MARKER = 65535

-- No entry before the i-th is the same.
pub record Lone (l : List ℕ) (i : ℕ) : Type 0 where
  pub none : (j : ℕ) → j < i → at l j ≢ at l i

-- The i-th entry is a marker, or a used node: an HTML element with a formatting name that is no earlier entry.
pub record Entry (m : List ℕ) (c : ℕ) (l : List ℕ) (i : ℕ) : Type 0 where
  pub used : at l i ≢ MARKER → (0 < at l i) × (at l i ≤ c)
  pub html : at l i ≢ MARKER → (field m (at l i) KIND ≡ ELEMENT) × (field m (at l i) SPACE ≡ space.html)
  pub name : at l i ≢ MARKER → is_in Formatting space.html (field m (at l i) NAME) ≡ true
  pub lone : at l i ≢ MARKER → Lone l i

pub record Entries (m : List ℕ) (c : ℕ) (l : List ℕ) (k : ℕ) : Type 0 where
  pub entry : (i : ℕ) → i < k → Entry m c l i

-- ---- template modes, flags, context

-- Each template mode is one of the 21 insertion modes.
pub record Modes (t : List ℕ) (s : ℕ) : Type 0 where
  pub mode : (i : ℕ) → i < s → (1 ≤ at t i) × (at t i ≤ 21)

-- The fragment context is none, or has a namespace, a name and a mark that an element may have.
unfoldable pub Allowed : Option Context → Type 0
Allowed None = Unit {0}
Allowed (Some x) = Tag x.space x.name x.mark

-- Foster parenting and head seen are each off or on, and the context is allowed.
pub record Settings (foster head : ℕ) (x : Option Context) : Type 0 where
  pub fostering : foster ≤ 1
  pub seen : head ≤ 1
  pub context : Allowed x

-- ---- all of it

pub record Sound (m p q l f t : List ℕ) (c v u d k s foster head : ℕ) (x : Option Context) : Type 0 where
  pub sizes : Sizes m p q c v u
  pub places : Places l f t d k s
  pub tree : Tree m q l c u d
  -- each text node has a chain of pieces, one at least and used ones only, and each used piece is in exactly one, once
  pub texts : Words m p c v
  pub entries : Entries m c f k
  pub modes : Modes t s
  pub settings : Settings foster head x
