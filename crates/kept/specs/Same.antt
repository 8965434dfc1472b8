-- Nodes that stay what they are while others are made and links change: the rules on kinds, the top, open elements and the
-- formatting list read few fields, and hold of the new bytes where these fields of the nodes 1 to c are as they were.
-- `changed` puts a sound state together from that and what is new.
-- Assumes nothing.
use Rattle.std.specs.Prelude.{ℕ, ◌+◌, ◌≤◌, ◌<◌, ◌≡◌, refl, ◌≢◌, ◌⊎◌, List, take, Option}
use Rattle.std.proofs.Common.{sym, ◌∙◌, inl, inr, arith, length-take, get_or-take}
use Rattle.std.proofs.Math.Decide.{ℕ_discrete, dec_lt}
use Rattle.theory.specs.Fn.{at}
use Rattle.theory.specs.Natural.{Natural}
use Rattle.lent.specs.Mem.{field, up, KIND, PARENT, FIRST, LAST, TIE, SPACE, NAME, MARK, START, COUNT, PIECE, END, DOCUMENT, ELEMENT, TEXT, COMMENT, CONTENTS}
use Rattle.links.specs.Links.{Children}
use Rattle.nodes.specs.Nodes.{SPARE, name_of, Template, Clear, Partner, Span, Ties, Kind}
use Rattle.texts.specs.Words.{Words}
use Rattle.state.specs.declared.Context.{Context}
use Rattle.sound.specs.Sound.{Sizes, Known, Top, Open, Entry, Entries, Sound}

-- kinds, and the fields from TIE on, but the last piece of a text node, which has other rules
pub record Same (m m' : List ℕ) (c : ℕ) : Type 0 where
  pub kind : (x : ℕ) → 0 < x → x ≤ c → field m' x KIND ≡ field m x KIND
  pub rest : (x f : ℕ) → 0 < x → x ≤ c → TIE ≤ f → f < END → field m' x f ≡ field m x f
  pub end : (x : ℕ) → 0 < x → x ≤ c → field m x KIND ≢ TEXT → field m' x END ≡ field m x END

-- what the rules ask of the links of node x: the document and contents have no parent, no element but the root gets the document
-- as parent, and text and comments have no children
pub record Links (m m' : List ℕ) (x : ℕ) : Type 0 where
  pub loose : (field m x KIND ≡ DOCUMENT) ⊎ (field m x KIND ≡ CONTENTS) → field m' x PARENT ≡ field m x PARENT
  pub root : field m x KIND ≡ ELEMENT → field m' x PARENT ≡ 1 → field m x PARENT ≡ 1
  pub leaf : (field m x KIND ≡ TEXT) ⊎ (field m x KIND ≡ COMMENT) → (field m' x FIRST ≡ field m x FIRST) × (field m' x LAST ≡ field m x LAST)

-- the first u pairs keep their names
pub record Names (q q' : List ℕ) (u : ℕ) : Type 0 where
  pub same : (i : ℕ) → i < u → name_of q' i ≡ name_of q i

pub names_refl : (q : List ℕ) (u : ℕ) → Names q q u
names_refl q u = record { same = λ i h. refl }

module _ {m m' : List ℕ} {c : ℕ} (w : Same m m' c) where
  pub template_back : (x : ℕ) → 0 < x → x ≤ c → Template m' x → Template m x
  template_back x z h t =
      record {
        kind = sym (w.kind x z h) ∙ t.kind;
        space = sym (w.rest x SPACE z h (omega arith) (omega arith)) ∙ t.space;
        name = sym (w.rest x NAME z h (omega arith) (omega arith)) ∙ t.name;
      }

  pub template_on : (x : ℕ) → 0 < x → x ≤ c → Template m x → Template m' x
  template_on x z h t =
      record {
        kind = w.kind x z h ∙ t.kind;
        space = w.rest x SPACE z h (omega arith) (omega arith) ∙ t.space;
        name = w.rest x NAME z h (omega arith) (omega arith) ∙ t.name;
      }

  -- and END, of a node that is no text
  clear_all : (x a : ℕ) → 0 < x → x ≤ c → TIE ≤ a → field m x KIND ≢ TEXT → Clear m x a SPARE → Clear m' x a SPARE
  clear_all x a z h i d k = record { zero = λ f p q. by f p q (ℕ_discrete f END) }
    where
      by : (f : ℕ) → a ≤ f → f < SPARE → Dec (f ≡ END) → field m' x f ≡ 0
      by f p q (yes e) = rw e (w.end x z h d ∙ rw e at (k.zero f p q))
      by f p q (no e) = w.rest x f z h (omega arith) (omega arith) ∙ k.zero f p q

  -- and the two ends of the children
  clear_leaf : (x b : ℕ) → 0 < x → x ≤ c → b ≤ END → (field m' x FIRST ≡ field m x FIRST) × (field m' x LAST ≡ field m x LAST) → Clear m x FIRST b
      → Clear m' x FIRST b
  clear_leaf x b z h j t k = record { zero = λ f p q. by f p q (ℕ_discrete f FIRST) (ℕ_discrete f LAST) }
    where
      by : (f : ℕ) → FIRST ≤ f → f < b → Dec (f ≡ FIRST) → Dec (f ≡ LAST) → field m' x f ≡ 0
      by f p q (yes e) d = rw e (t.0 ∙ rw e at (k.zero f p q))
      by f p q (no e) (yes d) = rw d (t.1 ∙ rw d at (k.zero f p q))
      by f p q (no e) (no d) = w.rest x f z h (omega arith) (omega arith) ∙ k.zero f p q

  partner_same : (x : ℕ) {c' : ℕ} → c ≤ c' → 0 < x → x ≤ c → Partner m c x → Partner m' c' x
  partner_same x le z h p =
      let e = w.rest x TIE z h (omega arith) (omega arith) in
      record {
        some = rw e p.some;
        used = rw e (omega (arith, p.used));
        back = rw e (w.rest (field m x TIE) TIE (omega (arith, p.some)) p.used (omega arith) (omega arith) ∙ p.back);
      }

  -- ---- one node

  module _ {q q' : List ℕ} {c' u u' : ℕ} (le : c ≤ c') (ue : u ≤ u') (n : Names q q' u) (x : ℕ) (z : 0 < x) (h : x ≤ c) (l : Links m m' x) where
    span_same : Span m q u x → Span m' q' u' x
    span_same s =
        let a = w.rest x START z h (omega arith) (omega arith) in
        let b = w.rest x COUNT z h (omega arith) (omega arith) in
        record {
          few = rw b s.few;
          used = rw (a, b) (omega (arith, s.used));
          distinct =
              rw (a, b)
              (record {
                apart =
                    λ i j g k.
                    rw (n.same (field m x START + i) (omega (arith, s.used)), n.same (field m x START + j) (omega (arith, s.used)))
                    (s.distinct.apart i j g k);
              });
        }

    ties_same : Ties m c x → Ties m' c' x
    ties_same t =
        let e = w.rest x TIE z h (omega arith) (omega arith) in
        record {
          tied =
              λ g.
              let r = t.tied (template_back x z h g) in
              (partner_same x le z h r.0, rw e (w.kind (field m x TIE) (omega (arith, r.0.some)) r.0.used ∙ r.1));
          untied = λ g. e ∙ t.untied (λ y. g (template_on x z h y));
        }

    pub kind_same : Kind m q c u x → Kind m' q' c' u' x
    kind_same k =
        let e = w.kind x z h in
        record {
          known = rw e k.known;
          document =
              λ d.
              let d' : field m x KIND ≡ DOCUMENT = sym e ∙ d in
              let t = k.document d' in
              record { one = t.one; parent = l.loose (inl d') ∙ t.parent; clear = clear_all x TIE z h (omega arith) (omega arith) t.clear };
          element =
              λ d.
              let d' : field m x KIND ≡ ELEMENT = sym e ∙ d in
              let t = k.element d' in
              record {
                tag =
                    rw (w.rest x SPACE z h (omega arith) (omega arith), w.rest x NAME z h (omega arith) (omega arith), w.rest x MARK z h (omega arith) (omega arith)) t.tag;
                span = span_same t.span;
                ties = ties_same t.ties;
                rooted = record { root = λ g. t.rooted.root (l.root d' g) };
                clear = clear_all x PIECE z h (omega arith) (omega arith) t.clear;
              };
          text = λ d. let d' : field m x KIND ≡ TEXT = sym e ∙ d in clear_leaf x PIECE z h (omega arith) (l.leaf (inl d')) (k.text d');
          comment =
              λ d.
              let d' : field m x KIND ≡ COMMENT = sym e ∙ d in
              let t = k.comment d' in
              record {
                front = clear_leaf x NAME z h (omega arith) (l.leaf (inr d')) t.front;
                back = clear_all x MARK z h (omega arith) (omega arith) t.back;
              };
          contents =
              λ d.
              let d' : field m x KIND ≡ CONTENTS = sym e ∙ d in
              let t = k.contents d' in
              record {
                parent = l.loose (inr d') ∙ t.parent;
                partner = partner_same x le z h t.partner;
                host =
                    rw (w.rest x TIE z h (omega arith) (omega arith))
                    (template_on (field m x TIE) (omega (arith, t.partner.some)) t.partner.used t.host);
                clear = clear_all x SPACE z h (omega arith) (omega arith) t.clear;
              };
        }

  -- ---- the top, open elements, the formatting list

  pub top_same : {c' : ℕ} → c ≤ c' → field m' 2 PARENT ≡ field m 2 PARENT → Top m c → Top m' c'
  top_same le e t =
      let h = t.two in
      record {
        two = omega arith;
        document = w.kind 1 (omega arith) (omega arith) ∙ t.document;
        element = w.kind 2 (omega arith) (omega arith) ∙ t.element;
        space = w.rest 2 SPACE (omega arith) (omega arith) (omega arith) (omega arith) ∙ t.space;
        name = w.rest 2 NAME (omega arith) (omega arith) (omega arith) (omega arith) ∙ t.name;
        parent = e ∙ t.parent;
      }

  pub open_same : {l : List ℕ} {d : ℕ} → ((i : ℕ) → i < d → (0 < at l i) × (at l i ≤ c)) → Open m l d → Open m' l d
  open_same {l} {d} g o =
      record {
        some = o.some;
        root = o.root;
        elements = λ i b. w.kind (at l i) (g i b).0 (g i b).1 ∙ o.elements i b;
      }

  pub entries_same : {c' : ℕ} {l : List ℕ} {k : ℕ} → c ≤ c' → Entries m c l k → Entries m' c' l k
  entries_same {c'} {l} {k} le e = record { entry = λ i b. by i (e.entry i b) }
    where
      by : (i : ℕ) → Entry m c l i → Entry m' c' l i
      by i g =
          record {
            used = λ n. let t = g.used n in (t.0, omega (arith, t.1));
            html =
                λ n.
                let t = g.used n in
                (w.kind (at l i) t.0 t.1 ∙ (g.html n).0, w.rest (at l i) SPACE t.0 t.1 (omega arith) (omega arith) ∙ (g.html n).1);
            name = λ n. let t = g.used n in rw (w.rest (at l i) NAME t.0 t.1 (omega arith) (omega arith)) (g.name n);
            lone = g.lone;
          }

-- ---- a sound state

-- nodes, pieces and pairs are others, and the old nodes and pairs are what they were
pub record Changed (m q l : List ℕ) (c u d : ℕ) (m' p' q' : List ℕ) (c' v' u' : ℕ) : Type 0 where
  pub sizes : Sizes m' p' q' c' v' u'
  pub more : c ≤ c'
  pub longer : u ≤ u'
  pub same : Same m m' c
  pub links : (n : ℕ) → 0 < n → n ≤ c → Links m m' n
  pub root : field m' 2 PARENT ≡ field m 2 PARENT
  pub names : Names q q' u
  pub children : Children m' c'
  pub kinds : (n : ℕ) → c < n → n ≤ c' → Kind m' q' c' u' n
  pub known : Known q' u'
  pub order : Natural (up m') c' (take d l)
  pub texts : Words m' p' c' v'

module _ {m p q l f t : List ℕ} {c v u d k s foster head : ℕ} {x : Option Context} (o : Sound m p q l f t c v u d k s foster head x) where
  -- open elements are used nodes
  pub open_used : (i : ℕ) → i < d → (0 < at l i) × (at l i ≤ c)
  open_used i b =
      rw (get_or-take d l i 0 b) at (o.tree.order.inside i (omega (arith, length-take d l, o.places.stack)))

  pub changed : {m' p' q' : List ℕ} {c' v' u' : ℕ} → Changed m q l c u d m' p' q' c' v' u' → Sound m' p' q' l f t c' v' u' d k s foster head x
  changed {m'} {p'} {q'} {c'} {v'} {u'} w =
      record {
        sizes = w.sizes;
        places = o.places;
        tree =
            record {
              children = w.children;
              kinds = record { kind = λ n z h. by n z h (dec_lt c n) };
              names = w.known;
              top = top_same w.same w.more w.root o.tree.top;
              order = w.order;
              stack = open_same w.same open_used o.tree.stack;
            };
        texts = w.texts;
        entries = entries_same w.same w.more o.entries;
        modes = o.modes;
        settings = o.settings;
      }
    where
      by : (n : ℕ) → 0 < n → n ≤ c' → Dec (c < n) → Kind m' q' c' u' n
      by n z h (yes g) = w.kinds n g h
      by n z h (no g) =
          let b : n ≤ c = omega arith in
          kind_same w.same w.more w.longer w.names n z b (w.links n z b) (o.tree.kinds.kind n z b)
