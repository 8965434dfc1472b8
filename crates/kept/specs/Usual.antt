-- The appropriate place for inserting a node, in a sound state: its parent is a used node that may have children, and is not the
-- document. All cases of foster parenting.
-- Assumes nothing.
use Rattle.std.specs.Prelude.{ℕ, ◌-◌, ◌≤◌, ◌<◌, ◌≡◌, ◌≢◌, Bool, cond, ◌&&◌, ◌||◌, List, [], ◌∷◌, length, get_or, None, Option, Some}
use Rattle.std.proofs.Common.{refl, ap, ◌∙◌, inl, eqb-true, true, false, arith, eqb}
use Rattle.std.proofs.lemmas.Bool.{eqb-false}
use Rattle.names.specs.Space as space
use Rattle.names.specs.Tag as tag
use Rattle.theory.specs.Fn.{In}
use Rattle.theory.specs.Kids.{hd, run_in}
use Rattle.lent.specs.Mem.{field, KIND, PARENT, FIRST, TIE, SPACE, NAME, DOCUMENT, ELEMENT}
use Rattle.lent.specs.Tree as tree
use Rattle.places.specs.Places.{at, last_with, down, never}
use Rattle.places.proofs.Laws.{down_last}
use Rattle.state.specs.Full.{Full}
use Rattle.state.specs.declared.Context.{Context}
use Rattle.sound.specs.Sound.{Sound}
use Rattle.sound.specs.State.{SoundFull}
use Rattle.standard.specs.Html.{is_html, is_foster_target, current}
use Rattle.standard.specs.Place.{node, pick, end_of, before_table, table_place, template_or_table, foster_at, is_foster_stop, foster_place, appropriate_place}
use Rattle.standard.specs.Insertion.{usual_place}
use Rattle.standard.specs.declared.Place.{Place}
use Rattle.standard.specs.declared.Place.TheVariants.{End, Before}
use Rattle.kept.specs.Keeps.{and_true}
use Rattle.kept.specs.Same.{open_used}
use Rattle.kept.specs.Attach.{parent_at, Spot}

-- a place for any node, an element too
pub record Usual (m : List ℕ) (c : ℕ) (w : Place) : Type 0 where
  pub spot : Spot m c w
  pub inner : parent_at m w ≢ 1

-- a used element
pub record Inside (m : List ℕ) (c n : ℕ) : Type 0 where
  pub some : 0 < n
  pub used : n ≤ c
  pub kind : field m n KIND ≡ ELEMENT

-- what the test for an HTML element says
pub record Html (m : List ℕ) (n a : ℕ) : Type 0 where
  pub kind : field m n KIND ≡ ELEMENT
  pub space : field m n SPACE ≡ space.html
  pub name : field m n NAME ≡ a

pub is_html_lem : (m : List ℕ) (n name : ℕ) → is_html m n name ≡ true → Html m n name
unfolding is_html
is_html_lem m n name e =
    let a = and_true (eqb (field m n KIND) ELEMENT) _ e in
    let b = and_true (eqb (field m n SPACE) space.html) _ a.1 in
    record { kind = eqb-true _ _ a.0; space = eqb-true _ _ b.0; name = eqb-true _ _ b.1 }

or_true : (a b : Bool) → (a || b) ≡ true → a ≡ false → b ≡ true
or_true true b e f = cc
or_true false b e f = e

module _ {m p q l f t : List ℕ} {c v u d k s foster head : ℕ} {x : Option Context} (o : Sound m p q l f t c v u d k s foster head x) where
  pub open_inside : (i : ℕ) → i < d → Inside m c (get_or l i 0)
  open_inside i h = let g = open_used o i h in record { some = g.0; used = g.1; kind = o.tree.stack.elements i h }

  -- contents and elements are not the document
  not_one : (n : ℕ) → field m n KIND ≢ DOCUMENT → n ≢ 1
  not_one n h e = h (rw e o.tree.top.document)

  pub end_usual : (n : ℕ) → Inside m c n → Usual m c (end_of m n)
  unfolding end_of
  end_usual n w = by (is_html m n tag.template) refl
    where
      by : (b : Bool) → is_html m n tag.template ≡ b → Usual m c (End (node (cond b (field m n TIE) n)))
      by true e =
          let h = is_html_lem m n tag.template e in
          let r = ((o.tree.kinds.kind n w.some w.used).element w.kind).ties.tied (record { kind = h.kind; space = h.space; name = h.name }) in
          record {
            spot =
                record {
                  some = omega (arith, r.0.some);
                  used = r.0.used;
                  text = omega (arith, r.1);
                  comment = omega (arith, r.1);
                  sibling = tt;
                };
            inner = not_one (field m n TIE) (omega (arith, r.1));
          }
      by false e =
          let g = w.kind in
          record {
            spot = record { some = w.some; used = w.used; text = omega arith; comment = omega arith; sibling = tt };
            inner = not_one n (omega arith);
          }

  -- a node that has a child has a first child
  pub has_first : (n : ℕ) → 0 < n → n ≤ c → (y : ℕ) → In y (o.tree.children.kids n) → field m n FIRST ≢ 0
  has_first n z h y i e = by (o.tree.children.kids n) refl i
    where
      by : (ys : List ℕ) → o.tree.children.kids n ≡ ys → In y ys → ⊥
      by [] g j = elim j [ ]
      by (r ∷ ys) g j =
          let b = run_in (tree.links m) c n 0 (o.tree.children.kids n) 0 r (o.tree.children.is_kids.run n z h) (rw g (inl refl)) in
          let a : field m n FIRST ≡ r = o.tree.children.is_kids.first n z h ∙ ap (λ (w : List ℕ). hd w 0) g in
          omega (arith, b.0)

  table_usual : (n : ℕ) → Inside m c n → Html m n tag.table → field m n PARENT ≢ 0 → Usual m c (before_table m n)
  unfolding before_table
  table_usual n w h z = by (is_html m (field m n PARENT) tag.template) refl
    where
      some : 0 < field m n PARENT
      some = omega arith

      used : field m n PARENT ≤ c
      used = o.tree.children.parent n w.some w.used

      first : field m (field m n PARENT) FIRST ≢ 0
      first = has_first (field m n PARENT) some used n (o.tree.children.is_kids.own n w.some w.used z)

      by : (b : Bool) → is_html m (field m n PARENT) tag.template ≡ b → Usual m c (pick b (end_of m (field m n PARENT)) (Before (node n)))
      by true e = end_usual (field m n PARENT) (record { some = some; used = used; kind = (is_html_lem m (field m n PARENT) tag.template e).kind })
      by false e =
          record {
            spot =
                record {
                  some = some;
                  used = used;
                  text = λ g. first (((o.tree.kinds.kind (field m n PARENT) some used).text g).zero FIRST (omega arith) (omega arith));
                  comment = λ g. first (((o.tree.kinds.kind (field m n PARENT) some used).comment g).front.zero FIRST (omega arith) (omega arith));
                  sibling = (w.some, w.used);
                };
            inner =
                λ g.
                let r : n ≡ 2 = ((o.tree.kinds.kind n w.some w.used).element w.kind).rooted.root g in
                let a : field m 2 NAME ≡ tag.table = rw r at h.name in
                omega (arith, a, o.tree.top.name);
          }

-- The appropriate place is the end of an open element, or before an open table that has a parent. All of these are among the first j
-- entries of the stack if the target and the open tables and templates are.
module _ (f : Full) (j : ℕ) (stops : (k : ℕ) → k < length f.stack.held → is_foster_stop f.nodes.mem (at f.stack k) ≡ true → k < j) (some : 0 < j)
    (P : Place → Type 0) (ends : (k : ℕ) → k < j → P (end_of f.nodes.mem (at f.stack k)))
    (tables : (k : ℕ) → k < j → Html f.nodes.mem (at f.stack k) tag.table → field f.nodes.mem (at f.stack k) PARENT ≢ 0
    → P (before_table f.nodes.mem (at f.stack k))) where
  -- entry i is the last table
  after_table : (i : ℕ) → i < j → Html f.nodes.mem (at f.stack i) tag.table → P (table_place f.nodes.mem f.stack i)
  unfolding table_place
  after_table i h w = by (eqb (field f.nodes.mem (at f.stack i) PARENT) 0) refl
    where
      by : (b : Bool) → eqb (field f.nodes.mem (at f.stack i) PARENT) 0 ≡ b
          → P (pick b (end_of f.nodes.mem (at f.stack (i - 1))) (before_table f.nodes.mem (at f.stack i)))
      by true e = ends (i - 1) (omega arith)
      by false e = tables i h w (eqb-false _ 0 e)

  -- entry i is the last template or table
  after_stop : (i : ℕ) → i < j → is_foster_stop f.nodes.mem (at f.stack i) ≡ true → P (template_or_table f.nodes.mem f.stack i)
  unfolding template_or_table is_foster_stop
  after_stop i h g = by (is_html f.nodes.mem (at f.stack i) tag.template) refl
    where
      by : (b : Bool) → is_html f.nodes.mem (at f.stack i) tag.template ≡ b
          → P (pick b (end_of f.nodes.mem (at f.stack i)) (table_place f.nodes.mem f.stack i))
      by true e = ends i h
      by false e = after_table i h (is_html_lem f.nodes.mem (at f.stack i) tag.table (or_true _ _ g e))

  at_foster : P (foster_place f.nodes.mem f.stack)
  unfolding foster_place foster_at last_with at
  at_foster = by (down (is_foster_stop f.nodes.mem) never f.stack.held (length f.stack.held)) refl
    where
      by : (r : Option ℕ) → down (is_foster_stop f.nodes.mem) never f.stack.held (length f.stack.held) ≡ r
          → P (foster_at r f.nodes.mem f.stack)
      by None e = ends 0 some
      by (Some i) e =
          let t = down_last (is_foster_stop f.nodes.mem) never f.stack.held (length f.stack.held) i e in
          after_stop i (stops i t.below t.has) t.has

  pub at_appropriate : (i : ℕ) → i < j → P (appropriate_place f.nodes.mem f.stack f.flags.foster (at f.stack i))
  unfolding appropriate_place
  at_appropriate i h = by (eqb f.flags.foster 1 && is_foster_target f.nodes.mem (at f.stack i))
    where
      by : (b : Bool) → P (pick b (foster_place f.nodes.mem f.stack) (end_of f.nodes.mem (at f.stack i)))
      by true = at_foster
      by false = ends i h

module _ (f : Full) (s : SoundFull f) where
  pub entry : (i : ℕ) → i < f.stack.size → Inside f.nodes.mem f.nodes.used (at f.stack i)
  unfolding at
  entry i h = open_inside s.sound i h

  -- any open element may be the target
  pub target_usual : (i : ℕ) → i < f.stack.size
      → Usual f.nodes.mem f.nodes.used (appropriate_place f.nodes.mem f.stack f.flags.foster (at f.stack i))
  target_usual i h =
      at_appropriate f f.stack.size (λ k b g. omega (arith, s.stack.all)) s.sound.tree.stack.some (Usual f.nodes.mem f.nodes.used)
      (λ k b. end_usual s.sound (at f.stack k) (entry k b))
      (λ k b w z. table_usual s.sound (at f.stack k) (entry k b) w z)
      i h

  pub place_usual : Usual f.nodes.mem f.nodes.used (usual_place f)
  unfolding usual_place current
  place_usual = target_usual (f.stack.size - 1) (omega (arith, s.sound.tree.stack.some))
