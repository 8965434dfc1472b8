-- The cases of step 4.13, as the code meets them, for any part of the state that it is not lent.
-- Assumes nothing.
use Rattle.std.proofs.Common.{ℕ, zero, suc, cond, ltb, length-append, length-take, length-drop, length-set, ◌+◌, ◌-◌, ◌<◌, ◌≤◌, ◌≡◌, refl, sym, ◌∙◌, List, arith, get_or, lt-ltb, le-ltb, eq-eqb, ne_eqb, None, Option, Some}
use Rattle.lent.specs.Room.{fresh}
use Rattle.adopted.proofs.Position.{place_last}
use Rattle.std.proofs.Math.Decide.{dec_lt}
use Rattle.places.specs.Places.{Places, Whole, places_of, at, without, without_any, swapped, place_of}
use Rattle.places.proofs.Laws.{at_of, without_in}
use Rattle.state.specs.declared.Core.{Core}
use Rattle.state.specs.declared.Context.{Context}
use Rattle.state.specs.Fields.{set_depth, set_counts, set_nodes, set_list}
use Rattle.state.specs.Full.{Full, full, with_stack, with_list, with_nodes}
use Rattle.standard.specs.Place.{node}
use Rattle.standard.specs.Adoption.{left_stack, left_both, renewed, renewed_in}
use Rattle.small.proofs.Laws.{stack_put, all_put, depth_stays, list_stays}
use Rattle.lent.proofs.Lowest.{fresh_is}
use Rattle.adopted.specs.declared.bookmark.Bookmark.{Bookmark}
use Rattle.adopted.specs.declared.bookmark.Bookmark.TheVariants.{InsertAfter}
use Rattle.adopted.specs.Bookmark.{Inner, inner_at, mark_of, renewed_at, turn_at, turned, inner}

pub mark_moves : (last block new : ℕ) (mark : Bookmark) → last ≡ block → InsertAfter (node new) ≡ mark_of last block new mark
unfolding mark_of
mark_moves last block new mark h = rw (eq-eqb last block h)

pub mark_stays : (last block new : ℕ) (mark : Bookmark) → (last ≡ block → ⊥) → mark ≡ mark_of last block new mark
unfolding mark_of
mark_stays last block new mark h = rw (ne_eqb last block h)

inner_eq : {f g : Full} {a b : ℕ} {o r : Bookmark} → f ≡ g → a ≡ b → o ≡ r → inner_at f a o ≡ inner_at g b r
inner_eq ef ea eo = cc

-- ---- what is written

module _ (s n l m p q : List ℕ) (x : Option Context) (c : Core) where
  pub stack_left : (s' : List ℕ) (i d : ℕ) {c' : Core} → i < c.depth → places_of s' d ≡ without_any (places_of s c.depth) i → c' ≡ set_depth c d
      → full s' c' x n l m p q ≡ left_stack (full s c x n l m p q) i
  unfolding left_stack
  stack_left s' i d lt es ed = stack_put s n l m p q x c s' d _ (es ∙ without_in s c.depth i lt) ed

  -- an entry or more leave the stack, and some the list
  pub both_put : (s' l' : List ℕ) (d e : ℕ) (P Q : Places) {c₁ c' : Core} → places_of s' d ≡ P → places_of l' e ≡ Q → c₁ ≡ set_depth c d → c' ≡ set_list c₁ e
      → full s' c' x n l' m p q ≡ with_list (with_stack (full s c x n l m p q) P) Q
  unfolding with_list with_stack set_depth set_list set_counts
  both_put s' l' d e P Q es el ed ee = rw (ee, ed, es, el)

  pub both_left : (s' l' : List ℕ) (i j d e : ℕ) {c₁ c' : Core} → places_of s' d ≡ without (places_of s c.depth) i
      → places_of l' e ≡ without (places_of l c.counts.list) j → c₁ ≡ set_depth c d → c' ≡ set_list c₁ e
      → full s' c' x n l' m p q ≡ left_both (full s c x n l m p q) i j
  unfolding left_both left_stack
  both_left s' l' i j d e es el ed ee = both_put s' l' d e _ _ es el ed ee

counts_nodes : (c : Core) (k : ℕ) {c' : Core} → c' ≡ set_nodes c k
    → (c'.depth ≡ c.depth) × (c'.counts.list ≡ c.counts.list) × (c'.counts.nodes ≡ k)
unfolding set_nodes set_counts
counts_nodes c k ek = rw ek (refl, refl, refl)

-- ---- one turn, for the node at entry i of the stack

module _ (w : Inner) (block i k : ℕ) where
  turned_none : place_of w.full.list (at w.full.stack i) ≡ None → inner_at (left_stack w.full i) w.last w.mark ≡ turned w block i k
  unfolding turned turn_at
  turned_none e = rw e

  turned_past : (j : ℕ) → place_of w.full.list (at w.full.stack i) ≡ Some j → 3 < k
      → inner_at (left_both w.full i j) w.last w.mark ≡ turned w block i k
  unfolding turned turn_at
  turned_past j e h = rw (e, lt-ltb 3 k h)

  turned_new : (j : ℕ) → place_of w.full.list (at w.full.stack i) ≡ Some j → k ≤ 3 → renewed_at w block i j ≡ turned w block i k
  unfolding turned turn_at
  turned_new j e h = rw (e, le-ltb 3 k h)

module _ (s n l m p q : List ℕ) (x : Option Context) (c : Core) (last : ℕ) (mark : Bookmark) (block i : ℕ) where
  pub renewed_at_lem : (j : ℕ) (s' l' : List ℕ) {a : ℕ} {n' : List ℕ} {c' : Core} {b : Bookmark} → i < c.depth → c.counts.nodes < 4096 → a ≡ fresh c.counts.nodes
      → n' ≡ renewed n a (get_or s i 0) last → places_of s' c.depth ≡ swapped (places_of s c.depth) i a
      → places_of l' c.counts.list ≡ swapped (places_of l c.counts.list) j a → c' ≡ set_nodes c (c.counts.nodes + 1) → b ≡ mark_of last block a mark
      → inner_at (full s' c' x n' l' m p q) a b ≡ renewed_at (inner_at (full s c x n l m p q) last mark) block i j
  unfolding renewed_at renewed_in
  renewed_at_lem j s' l' {a} {n'} {c'} {b} lt h ea en es el ec eb =
      let e : a ≡ c.counts.nodes + 1 = ea ∙ fresh_is c.counts.nodes (omega arith) in
      let t = counts_nodes c (c.counts.nodes + 1) ec in
      inner_eq
      (all_put s n l m p q x c s' n' l' _ c.depth c.counts.list _ _ ec (depth_stays c' c.depth t.0) (list_stays c' c.counts.list t.1) es el ∙ rw (en, at_of s c.depth i lt, e))
      e
      (eb ∙ rw e)

module _ (f : Full) (last : ℕ) (mark : Bookmark) (block i k : ℕ) {o : Option ℕ} (eo : o ≡ place_of f.list (at f.stack i)) where
  pub turn_none : {g : Full} → o ≡ None → g ≡ left_stack f i → inner_at g last mark ≡ turned (inner_at f last mark) block i k
  turn_none e eg = inner_eq eg refl refl ∙ turned_none (inner_at f last mark) block i k (sym eo ∙ e)

  pub turn_past : {j : ℕ} {g : Full} → o ≡ Some j → 3 < k → g ≡ left_both f i j → inner_at g last mark ≡ turned (inner_at f last mark) block i k
  turn_past {j} e h eg = inner_eq eg refl refl ∙ turned_past (inner_at f last mark) block i k j (sym eo ∙ e) h

  pub turn_new : {j : ℕ} {v : Inner} → o ≡ Some j → k ≤ 3 → v ≡ renewed_at (inner_at f last mark) block i j → v ≡ turned (inner_at f last mark) block i k
  turn_new {j} e h ev = ev ∙ turned_new (inner_at f last mark) block i k j (sym eo ∙ e) h

-- ---- the loop

-- What holds while the walk goes on, from the state f, with the node at place i and all above it still to meet: the places are whole and
-- no more than they were, one entry at least stays, and the turns up to the third make one node each.
pub record Going (f : Full) (w : Inner) (k i : ℕ) : Type 0 where
  pub stack : Whole w.full.stack
  pub list : Whole w.full.list
  pub above : i < w.full.stack.size
  pub depth : w.full.stack.size ≤ f.stack.size
  pub listed : w.full.list.size ≤ f.list.size
  pub room : w.full.nodes.used + (3 - k) ≤ f.nodes.used + 3

whole_without : (p : Places) (i : ℕ) → i < p.size → Whole p → Whole (without p i)
unfolding without
whole_without p i h w = record { all = simp (length-append, length-take, length-drop) (omega (arith, w.all)) }

whole_swapped : (p : Places) (i n : ℕ) → Whole p → Whole (swapped p i n)
unfolding swapped
whole_swapped p i n w = record { all = rw (length-set p.held i n) w.all }

module _ (f : Full) (w : Inner) (block i k : ℕ) (g : Going f w k (suc i)) where
  -- a node is made in the first three turns alone
  going_past : (j : ℕ) → j < w.full.list.size → Going f (inner_at (left_both w.full i j) w.last w.mark) (k + 1) i
  unfolding left_both left_stack with_stack with_list without
  going_past j h =
      record {
        stack = whole_without w.full.stack i (omega (arith, g.above)) g.stack;
        list = whole_without w.full.list j h g.list;
        above = omega (arith, g.above);
        depth = omega (arith, g.depth);
        listed = omega (arith, g.listed);
        room = omega (arith, g.room);
      }

  going_new : (j : ℕ) → k + 1 ≤ 3 → Going f (renewed_at w block i j) (k + 1) i
  unfolding renewed_at renewed_in with_stack with_list with_nodes swapped
  going_new j h =
      record {
        stack = whole_swapped w.full.stack i (w.full.nodes.used + 1) g.stack;
        list = whole_swapped w.full.list j (w.full.nodes.used + 1) g.list;
        above = omega (arith, g.above);
        depth = omega (arith, g.depth);
        listed = omega (arith, g.listed);
        room = omega (arith, g.room);
      }

  going_at : (q : Option ℕ) → place_of w.full.list (at w.full.stack i) ≡ q → Going f (turn_at q w block i (k + 1)) (k + 1) i
  unfolding turn_at left_stack with_stack without
  going_at None e =
      record {
        stack = whole_without w.full.stack i (omega (arith, g.above)) g.stack;
        list = g.list;
        above = omega (arith, g.above);
        depth = omega (arith, g.depth);
        listed = omega (arith, g.listed);
        room = omega (arith, g.room);
      }
  going_at (Some j) e = by (dec_lt 3 (k + 1))
    where
      by : Dec (3 < k + 1) → Going f (cond (ltb 3 (k + 1)) (inner_at (left_both w.full i j) w.last w.mark) (renewed_at w block i j)) (k + 1) i
      by (yes a) = rw (lt-ltb 3 (k + 1) a) (going_past j (omega (arith, g.list.all, (place_last w.full.list (at w.full.stack i) j e).below)))
      by (no n) = rw (le-ltb 3 (k + 1) (omega arith)) (going_new j (omega arith))

-- a turn of the loop, for the node at place i, the one before place h
module _ (w : Inner) (block i k : ℕ) {c h : ℕ} (ec : c ≡ k + 1) (eh : h ≡ suc i) where
  pub turned_going : (f : Full) {v : Inner} → Going f w k h → v ≡ turned w block i c → Going f v c i
  unfolding turned
  turned_going f g ev = rw (ev, ec) (going_at f w block i k (rw eh at g) (place_of w.full.list (at w.full.stack i)) refl)

  pub inner_stop : (fe : ℕ) → at w.full.stack i ≡ fe → inner w fe block k h ≡ w
  unfolding inner
  inner_stop fe e = rw (eh, eq-eqb (at w.full.stack i) fe e)

  pub inner_on : (fe : ℕ) {v : Inner} → (at w.full.stack i ≡ fe → ⊥) → v ≡ turned w block i c → inner w fe block k h ≡ inner v fe block c i
  unfolding inner
  inner_on fe e ev = rw (eh, ne_eqb (at w.full.stack i) fe e, ev, ec)

pub inner_none : (w : Inner) (fe block k i : ℕ) → i ≤ 0 → inner w fe block k i ≡ w
unfolding inner
inner_none w fe block k zero h = refl
inner_none w fe block k (suc i) h = absurd (omega arith)
