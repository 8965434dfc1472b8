-- What a sound state is, one theorem for each rule of the paragraph "Sound means" that is not in `Reading`: each says its rule of
-- the fields of the lent memory and of the entries of the places.
-- Assumes nothing.
use Rattle.std.proofs.Common.{◌≡◌, sym, ◌∙◌, ◌≢◌, ◌⊎◌, inl, inr, ◌↔◌, List, [], ◌∷◌, true, ℕ, suc, ◌+◌, ◌*◌, ◌≤◌, ◌<◌, arith, length, take, length-take, get_or-take, Option, Some}
use Rattle.std.proofs.Math.Decide.{ℕ_discrete, dec_lt}
use Rattle.lent.specs.Mem.{field, up, KIND, PARENT, FIRST, LAST, TIE, SPACE, NAME, MARK, START, COUNT, PIECE, END, DOCUMENT, ELEMENT, TEXT, COMMENT, CONTENTS}
use Rattle.lent.specs.Tree.{links}
use Rattle.names.specs.Numbers.{is_name}
use Rattle.names.specs.Sets.{is_in, Formatting}
use Rattle.names.specs.Space as space
use Rattle.names.specs.Tag as tag
use Rattle.theory.specs.Fn.{at, In}
use Rattle.theory.specs.Kids.{Kids, Run, hd, lst}
use Rattle.theory.specs.Natural.{Steps, Anc}
use Rattle.theory.specs.Pigeon.{Once, Within, pigeon}
use Rattle.theory.specs.Path.{Path, path_walk}
use Rattle.nodes.specs.Nodes.{Kind, Template, Tag, name_of}
use Rattle.texts.specs.Texts.{after, pieces_of, is_none, is_walk}
use Rattle.texts.specs.Words.{Words}
use Rattle.state.specs.declared.Context.{Context}
use Rattle.sound.specs.Sound.{Sound, Allowed, MARKER}

-- what each used node has of contents: an HTML `template` one node of its own, contents the `template` that they are of, and any
-- other node none
pub record Owned (m : List ℕ) (c x : ℕ) : Type 0 where
  pub template : Template m x
      → (0 < field m x TIE) × (field m x TIE ≤ c) × (field m (field m x TIE) KIND ≡ CONTENTS) × (field m (field m x TIE) TIE ≡ x)
  pub alone : Template m x → (y : ℕ) → 0 < y → y ≤ c → field m y KIND ≡ CONTENTS → field m y TIE ≡ x → y ≡ field m x TIE
  pub contents : field m x KIND ≡ CONTENTS
      → (0 < field m x TIE) × (field m x TIE ≤ c) × Template m (field m x TIE) × (field m (field m x TIE) TIE ≡ x)
  pub other : ¬ Template m x → field m x KIND ≢ CONTENTS → field m x TIE ≡ 0

-- the one text node that piece y lies in
pub record Home (m p : List ℕ) (c v y n : ℕ) : Type 0 where
  pub used : (0 < n) × (n ≤ c)
  pub text : field m n KIND ≡ TEXT
  pub within : In y (pieces_of m p v n)
  pub once : Once (pieces_of m p v n)
  pub alone : (k : ℕ) → 0 < k → k ≤ c → In y (pieces_of m p v k) → k ≡ n

-- an entry of the list that is no marker: a used HTML element with a formatting name that no entry before it is
pub record Listed (m f : List ℕ) (c i : ℕ) : Type 0 where
  pub used : (0 < at f i) × (at f i ≤ c)
  pub element : field m (at f i) KIND ≡ ELEMENT
  pub html : field m (at f i) SPACE ≡ space.html
  pub name : is_in Formatting space.html (field m (at f i) NAME) ≡ true
  pub apart : (j : ℕ) → j < i → at f j ≢ at f i

-- the counts, each within the largest size and the lent memory
pub record Counts (m p q l f t : List ℕ) (c v u d k s : ℕ) : Type 0 where
  pub nodes : (c ≤ 4096) × ((c + 1) * 32 ≤ length m)
  pub pieces : (v ≤ 8192) × (0 < v → (v + 1) * 4 ≤ length p)
  pub pairs : (u ≤ 4096) × (u * 4 ≤ length q)
  pub stack : (d ≤ 512) × (d ≤ length l)
  pub entries : (k ≤ 256) × (k ≤ length f)
  pub modes : (s ≤ 64) × (s ≤ length t)

-- ---- steps of the proofs below

bare : {m q : List ℕ} {c u x : ℕ} → Kind m q c u x → (field m x KIND ≡ TEXT) ⊎ (field m x KIND ≡ COMMENT) → (field m x FIRST ≡ 0) × (field m x LAST ≡ 0)
bare r (inl e) = let g = (r.text e).zero in (g FIRST (omega arith) (omega arith), g LAST (omega arith) (omega arith))
bare r (inr e) = let g = (r.comment e).front.zero in (g FIRST (omega arith) (omega arith), g LAST (omega arith) (omega arith))

-- a node without a first child has none
childless : (m : List ℕ) {c : ℕ} {kids : ℕ → List ℕ} → Kids (links m) c kids → (x : ℕ) → 0 < x → x ≤ c → field m x FIRST ≡ 0 → (y : ℕ) → In y (kids x) → ⊥
childless m {c} {kids} r x z h e y i = by (kids x) (r.first x z h) (r.run x z h) i
  where
    by : (ks : List ℕ) → field m x FIRST ≡ hd ks 0 → Run (links m) c x 0 ks 0 → In y ks → ⊥
    by [] g s i = i
    by (n ∷ ks) g s i = omega (arith, s.0)

untied : {m q : List ℕ} {c u x : ℕ} → Kind m q c u x → ¬ Template m x → field m x KIND ≢ CONTENTS → field m x TIE ≡ 0
untied {m} {q} {c} {u} {x} k n g =
    by (ℕ_discrete (field m x KIND) 1) (ℕ_discrete (field m x KIND) 2) (ℕ_discrete (field m x KIND) 3)
    (ℕ_discrete (field m x KIND) 4)
  where
    by : Dec (field m x KIND ≡ 1) → Dec (field m x KIND ≡ 2) → Dec (field m x KIND ≡ 3) → Dec (field m x KIND ≡ 4) → field m x TIE ≡ 0
    by (yes a) _ _ _ = (k.document a).clear.zero TIE (omega arith) (omega arith)
    by (no a) (yes b) _ _ = (k.element b).ties.untied n
    by (no a) (no b) (yes d) _ = (k.text d).zero TIE (omega arith) (omega arith)
    by (no a) (no b) (no d) (yes e) = (k.comment e).front.zero TIE (omega arith) (omega arith)
    by (no a) (no b) (no d) (no e) = absurd (g (omega (arith, k.known.0, k.known.1)))

module _ {m p : List ℕ} {c v : ℕ} (r : Words m p c v) where
  -- the pieces of a node are those met from its first by `next`
  met : (n : ℕ) → 0 < n → n ≤ c → Dec (field m n KIND ≡ TEXT) → pieces_of m p v n ≡ r.of n
  met n z h (yes e) =
      is_walk m p v n e
      ∙ path_walk (after p) (field m n PIECE) (r.of n) (suc v) (r.text n z h e).1
      (let g = pigeon v (r.of n) (r.once n z h) (r.used n z h) in omega arith)
  met n z h (no e) = is_none m p v n e ∙ sym (r.other n z h e)

  pieces_are : (n : ℕ) → 0 < n → n ≤ c → pieces_of m p v n ≡ r.of n
  pieces_are n z h = met n z h (ℕ_discrete (field m n KIND) TEXT)

  housed : (y n : ℕ) → 0 < n → n ≤ c → In y (r.of n) → Home m p c v y n
  housed y n z h i =
      record {
        used = (z, h);
        text = text (ℕ_discrete (field m n KIND) TEXT);
        within = rw (pieces_are n z h) i;
        once = rw (pieces_are n z h) (r.once n z h);
        alone = λ k a b j. same k a b (rw (pieces_are k a b) at j) (dec_lt n k) (dec_lt k n);
      }
    where
      text : Dec (field m n KIND ≡ TEXT) → field m n KIND ≡ TEXT
      text (yes e) = e
      text (no e) = absurd (rw (r.other n z h e) at i)

      same : (k : ℕ) → 0 < k → k ≤ c → In y (r.of k) → Dec (n < k) → Dec (k < n) → k ≡ n
      same k a b j (yes e) _ = absurd (r.one n k y z e b i j)
      same k a b j (no _) (yes e) = absurd (r.one k n y a e h j i)
      same k a b j (no d) (no e) = omega arith

told : (x : Option Context) → Allowed x → (ns name mark : ℕ) → x ≡ Some (record { space = ns; name = name; mark = mark }) → Tag ns name mark
unfolding Allowed
told x a ns name mark e = rw e at a

module _ {m p q l f t : List ℕ} {c v u d k s foster head : ℕ} {context : Option Context} (w : Sound m p q l f t c v u d k s foster head context) where
  -- ---- nodes

  -- node 1 is a document, and no other used node is
  pub document_only_one : (x : ℕ) → 0 < x → x ≤ c → (field m x KIND ≡ DOCUMENT) ↔ (x ≡ 1)
  document_only_one x z h = (λ e. ((w.tree.kinds.kind x z h).document e).one, λ e. rw e w.tree.top.document)

  -- the document has no parent, and contents have none: they are in no list of children
  pub roots_parent : (x : ℕ) → 0 < x → x ≤ c → (field m x KIND ≡ DOCUMENT) ⊎ (field m x KIND ≡ CONTENTS) → field m x PARENT ≡ 0
  roots_parent x z h (inl e) = ((w.tree.kinds.kind x z h).document e).parent
  roots_parent x z h (inr e) = ((w.tree.kinds.kind x z h).contents e).parent

  -- going up, from contents to their template and else to the parent, comes to 0 after some steps
  pub climbs_end : (x : ℕ) → x ≤ c → (n : ℕ) × Steps (up m) n x
  climbs_end = w.tree.order.ends

  -- text and comments have no child: no first, no last, and no used node has one as its parent
  pub no_children : (x : ℕ) → 0 < x → x ≤ c → (field m x KIND ≡ TEXT) ⊎ (field m x KIND ≡ COMMENT)
      → (field m x FIRST ≡ 0) × (field m x LAST ≡ 0) × ((y : ℕ) → 0 < y → y ≤ c → field m y PARENT ≢ x)
  no_children x z h e =
      let r = bare (w.tree.kinds.kind x z h) e in
      (r.0, r.1, λ y a b i. childless m w.tree.children.is_kids x z h r.0 y (rw i at (w.tree.children.is_kids.own y a b (omega arith))))

  -- each HTML `template`, and nothing else, has one contents node, its own
  pub contents_own : (x : ℕ) → 0 < x → x ≤ c → Owned m c x
  contents_own x z h =
      record {
        template = λ e. let r = ((w.tree.kinds.kind x z h).element e.kind).ties.tied e in (omega (arith, r.0.some), r.0.used, r.1, r.0.back);
        alone = λ e y a b i j. rw j at (sym ((w.tree.kinds.kind y a b).contents i).partner.back);
        contents = λ e. let r = (w.tree.kinds.kind x z h).contents e in (omega (arith, r.partner.some), r.partner.used, r.host, r.partner.back);
        other = λ n e. untied (w.tree.kinds.kind x z h) n e;
      }

  -- ---- open elements

  below : (i : ℕ) → i < d → i < length (take d l)
  below i h = omega (arith, length-take d l, w.places.stack)

  -- each open element is a used element, and none is open twice
  pub open_apart : (i : ℕ) → i < d
      → (0 < at l i) × (at l i ≤ c) × (field m (at l i) KIND ≡ ELEMENT) × ((j : ℕ) → j < i → at l j ≢ at l i)
  open_apart i h =
      let r = rw (get_or-take d l i 0 h) at (w.tree.order.inside i (below i h)) in
      (r.0, r.1, w.tree.stack.elements i h, λ j g. rw (get_or-take d l i 0 h, get_or-take d l j 0 (omega arith)) at (w.tree.order.apart j i g (below i h)))

  -- entry 0 is the root, an HTML `html` that is a child of the document
  pub open_root : (0 < d) × (at l 0 ≡ 2) × (field m 2 KIND ≡ ELEMENT) × (field m 2 SPACE ≡ space.html) × (field m 2 NAME ≡ tag.html) × (field m 2 PARENT ≡ 1)
  open_root =
      let r = w.tree.top in (w.tree.stack.some, w.tree.stack.root, r.element, r.space, r.name, r.parent)

  -- no entry is an ancestor of an earlier one, contents counted through the template
  pub open_order : (i j : ℕ) → i < j → j < d → ¬ Anc (up m) (at l j) (at l i)
  open_order i j g h = rw (get_or-take d l i 0 (omega arith), get_or-take d l j 0 h) at (w.tree.order.above i j g (below j h))

  -- ---- the formatting list

  -- each entry but the markers is an HTML element with a formatting name, and none stands there twice
  pub list_apart : (i : ℕ) → i < k → at f i ≢ MARKER → Listed m f c i
  list_apart i h n =
      let r = w.entries.entry i h in
      record { used = r.used n; element = (r.html n).0; html = (r.html n).1; name = r.name n; apart = (r.lone n).none }

  -- ---- texts

  -- each used piece lies in exactly one text node, once
  pub pieces_once : (y : ℕ) → 0 < y → y ≤ v → (n : ℕ) × Home m p c v y n
  pieces_once y z h = let r = w.texts.all y z h in (r.0, housed w.texts y r.0 r.1 r.2 r.3)

  -- each text node has one piece at least, and used ones only; they are a chain from its first piece to its last, and none comes after it
  pub text_has_pieces : (n : ℕ) → 0 < n → n ≤ c → field m n KIND ≡ TEXT
      → (pieces_of m p v n ≢ []) × Within v (pieces_of m p v n)
      × Path (after p) (field m n PIECE) (pieces_of m p v n) 0 × (lst 0 (pieces_of m p v n) ≡ field m n END)
  text_has_pieces n z h e =
      let r = w.texts.text n z h e in rw (pieces_are w.texts n z h) (r.0, w.texts.used n z h, r.1, r.2)

  -- ---- counts

  -- no more is used than there may be, and all that is used lies in the lent memory
  pub counts_within : Counts m p q l f t c v u d k s
  counts_within =
      record {
        nodes = w.sizes.nodes;
        pieces = w.sizes.pieces;
        pairs = w.sizes.pairs;
        stack = w.places.stack;
        entries = w.places.entries;
        modes = w.places.modes;
      }

  -- ---- names, namespaces, modes, marks and flags

  -- each used node is of one of the five kinds, and an element has a namespace, a name and a mark that are allowed
  pub names_allowed : (x : ℕ) → 0 < x → x ≤ c
      → (1 ≤ field m x KIND) × (field m x KIND ≤ 5) × (field m x KIND ≡ ELEMENT → Tag (field m x SPACE) (field m x NAME) (field m x MARK))
  names_allowed x z h = let r = w.tree.kinds.kind x z h in (r.known.0, r.known.1, λ e. (r.element e).tag)

  -- each used pair has a known name
  pub pairs_allowed : (i : ℕ) → i < u → is_name (name_of q i) ≡ true
  pairs_allowed = w.tree.names.name

  -- each template mode is one of the 21 insertion modes
  pub modes_allowed : (i : ℕ) → i < s → (1 ≤ at t i) × (at t i ≤ 21)
  modes_allowed = w.modes.mode

  -- both flags are off or on, and the fragment context has what an element may have
  pub settings_allowed : (foster ≤ 1) × (head ≤ 1) × ((ns name mark : ℕ) → context ≡ Some (record { space = ns; name = name; mark = mark }) → Tag ns name mark)
  settings_allowed = (w.settings.fostering, w.settings.seen, λ ns name mark e. told context w.settings.context ns name mark e)

  -- an element's attributes are at most 16 used pairs, and no name stands among them twice
  pub span_allowed : (x : ℕ) → 0 < x → x ≤ c → field m x KIND ≡ ELEMENT
      → (field m x COUNT ≤ 16) × (field m x START + field m x COUNT ≤ u)
      × ((i j : ℕ) → i < j → j < field m x COUNT → name_of q (field m x START + i) ≢ name_of q (field m x START + j))
  span_allowed x z h e = let r = ((w.tree.kinds.kind x z h).element e).span in (r.few, r.used, r.distinct.apart)
