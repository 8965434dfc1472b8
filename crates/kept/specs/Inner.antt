-- The inner loop of the adoption agency, 4.13, keeps a sound state sound, and ends where the element after the formatting element
-- on the stack is lastNode.
-- Assumes nothing.
use Rattle.std.proofs.Common.{ℕ, zero, suc, ◌+◌, ◌≤◌, ◌<◌, refl, sym, ◌∙◌, ltb-false, eqb-true, true, false, cond, arith, ltb}
use Rattle.std.specs.Prelude.{◌≡◌, Bool, length, eqb, None, Option, Some, ℕ}
use Rattle.std.proofs.Math.Decide.{ℕ_discrete, dec_lt}
use Rattle.std.proofs.lemmas.Bool.{eqb-false}
use Rattle.theory.specs.Fn.{at}
use Rattle.lent.specs.Mem.{NODES, slots}
use Rattle.places.specs.Places as places
use Rattle.places.specs.Places.{place_of, last_with, same, never}
use Rattle.places.proofs.Laws.{down_last}
use Rattle.state.specs.Full.{Full, with_stack}
use Rattle.standard.specs.Adoption.{Inner, inner_at, gone, left_stack, left_both, renewed_at, turn_at, turned, inner}
use Rattle.kept.specs.Loop.{InnerSound, other_fe, left_stack_lem, left_list, renewed_inner}

-- ---- one turn, and the loop

module _ {b : Full} {fe block s : ℕ} (z : 0 < s) (room : b.nodes.used + 4 < slots NODES b.nodes.mem) where
  -- the node is entry j of the list
  module _ {w : Inner} {i counter : ℕ} (l : s < i) (o : InnerSound b fe block s w (suc i) counter) (j : ℕ) (h : j < w.full.list.size)
      (is : at w.full.list.held j ≡ at w.full.stack.held i) where
    left_both_lem : InnerSound b fe block s (inner_at (left_both w.full i j) w.last (gone w.mark j)) i (counter + 1)
    unfolding left_both left_stack with_stack
    left_both_lem = left_list (left_stack_lem z l o) j h (λ q. other_fe o i (omega (arith, o.deep)) l (sym is ∙ q))

    anew : counter + 1 ≤ 3 → InnerSound b fe block s (renewed_at w block i j) i (counter + 1)
    unfolding renewed_at
    anew c = renewed_inner z l o room j h is (cond (eqb w.last block) (j + 1) w.mark) (by (eqb w.last block)) c
      where
        by : (x : Bool) → cond x (j + 1) w.mark ≤ w.full.list.size
        by true = omega arith
        by false = o.mark

    pub turned_listed : InnerSound b fe block s (turn_at (Some j) w block i (counter + 1)) i (counter + 1)
    unfolding turn_at
    turned_listed = by (ltb 3 (counter + 1)) refl
      where
        by : (x : Bool) → ltb 3 (counter + 1) ≡ x
            → InnerSound b fe block s (cond x (inner_at (left_both w.full i j) w.last (gone w.mark j)) (renewed_at w block i j)) i (counter + 1)
        by true e = left_both_lem
        by false e = anew (ltb-false 3 (counter + 1) e)

  pub turned_sound : {w : Inner} {i counter : ℕ} → s < i → InnerSound b fe block s w (suc i) counter → InnerSound b fe block s (turned w block i (counter + 1)) i (counter + 1)
  unfolding turned turn_at place_of last_with places.at
  turned_sound {w} {i} {counter} l o = by (place_of w.full.list (places.at w.full.stack i)) refl
    where
      by : (x : Option ℕ) → place_of w.full.list (places.at w.full.stack i) ≡ x → InnerSound b fe block s (turn_at x w block i (counter + 1)) i (counter + 1)
      by None e = left_stack_lem z l o
      by (Some j) e =
          let n = at w.full.stack.held i in
          let g = down_last (same n) never w.full.list.held (length w.full.list.held) j e in
          turned_listed l o j (omega (arith, g.below, o.sound.list.all)) (eqb-true (at w.full.list.held j) n g.has)

  -- the formatting element is met, right before lastNode
  pub inner_sound : (k counter : ℕ) (w : Inner) → InnerSound b fe block s w k counter → InnerSound b fe block s (inner w fe block counter k) (suc s) 3
  unfolding inner places.at
  inner_sound zero counter w o = absurd (omega (arith, o.below))
  inner_sound (suc i) counter w o =
      by (eqb (at w.full.stack.held i) fe) refl (λ l. inner_sound i (counter + 1) (turned w block i (counter + 1)) (turned_sound l o))
    where
      here : i ≡ s → InnerSound b fe block s w (suc s) 3
      here e =
          record {
            sound = o.sound;
            since = o.since;
            below = omega arith;
            deep = rw e at o.deep;
            last = rw e at o.last;
            formatting = o.formatting;
            listed = o.listed;
            further = rw e at o.further;
            unlisted = o.unlisted;
            mark = o.mark;
            few = omega (arith, o.few);
          }

      by : (x : Bool) → eqb (at w.full.stack.held i) fe ≡ x → (s < i → InnerSound b fe block s (inner (turned w block i (counter + 1)) fe block (counter + 1) i) (suc s) 3)
          → InnerSound b fe block s (cond x w (inner (turned w block i (counter + 1)) fe block (counter + 1) i)) (suc s) 3
      by true e r = first (dec_lt s i)
        where
          first : Dec (s < i) → InnerSound b fe block s w (suc s) 3
          first (yes l) = absurd (other_fe o i (omega (arith, o.deep)) l (eqb-true (at w.full.stack.held i) fe e))
          first (no l) = here (omega (arith, o.below))
      by false e r = later (ℕ_discrete i s)
        where
          later : Dec (i ≡ s) → InnerSound b fe block s (inner (turned w block i (counter + 1)) fe block (counter + 1) i) (suc s) 3
          later (yes d) = absurd (eqb-false (at w.full.stack.held i) fe e (rw d o.formatting))
          later (no d) = r (omega (arith, o.below))
