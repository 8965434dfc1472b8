-- A search that nothing stops passes every entry after the one that it finds, or all where it finds none.
-- Assumes nothing.
use Rattle.std.specs.Prelude.{ℕ, zero, suc, ◌+◌, ◌≤◌, ◌<◌, ◌≡◌, refl, Bool, true, false, cond, List, get_or, None, Option, Some}
use Rattle.std.proofs.Common.{arith}
use Rattle.std.proofs.Math.Decide.{ℕ_discrete}
use Rattle.places.specs.Places.{down, never}
use Rattle.standard.specs.Formatting.{after}

pub after_none : after None ≡ 0
unfolding after
after_none = refl

pub after_at_lem : (i : ℕ) → after (Some i) ≡ i + 1
unfolding after
after_at_lem i = refl

-- no entry after the one that is found, or none at all, has `hit`
pub record Past (hit : ℕ → Bool) (h : List ℕ) (k : ℕ) (o : Option ℕ) : Type 0 where
  pub none : (j : ℕ) → after o ≤ j → j < k → hit (get_or h j 0) ≡ false

pub down_past : (hit : ℕ → Bool) (h : List ℕ) (k : ℕ) → Past hit h k (down hit never h k)
unfolding down
down_past hit h zero = record { none = λ j a b. absurd (omega arith) }
down_past hit h (suc k) = by (hit (get_or h k 0)) refl (down_past hit h k)
  where
    by : (b : Bool) → hit (get_or h k 0) ≡ b → Past hit h k (down hit never h k) → Past hit h (suc k) (cond b (Some k) (down hit never h k))
    by true e r = record { none = λ j a b. absurd (omega (arith, after_at_lem k)) }
    by false e r = record { none = λ j a b. last j a b (ℕ_discrete j k) }
      where
        last : (j : ℕ) → after (down hit never h k) ≤ j → j < suc k → Dec (j ≡ k) → hit (get_or h j 0) ≡ false
        last j a b (yes z) = rw z e
        last j a b (no z) = r.none j a (omega arith)
