-- A step of the search downward, from k, which is one more than i.
-- Assumes nothing.
use Rattle.std.proofs.Common.{◌≡◌, ℕ, suc, ◌≤◌, Bool, true, false, Some, None, List, get_or, subst, refl, arith}
use Rattle.places.specs.Places.{down}

module _ (p q : ℕ → Bool) (s : List ℕ) (k i : ℕ) (h : suc i ≡ k) where
  pub down_hit : p (get_or s i 0) ≡ true → down p q s k ≡ Some i
  unfolding down
  down_hit e = subst (λ (n : ℕ). down p q s n ≡ Some i) h (rw e refl)

  pub down_stop : p (get_or s i 0) ≡ false → q (get_or s i 0) ≡ true → down p q s k ≡ None
  unfolding down
  down_stop e d = subst (λ (n : ℕ). down p q s n ≡ None) h (rw (e, d) refl)

  pub down_next : p (get_or s i 0) ≡ false → q (get_or s i 0) ≡ false → down p q s k ≡ down p q s i
  unfolding down
  down_next e d = subst (λ (n : ℕ). down p q s n ≡ down p q s i) h (rw (e, d) refl)

pub down_none : (p q : ℕ → Bool) (s : List ℕ) (k : ℕ) → k ≤ 0 → down p q s k ≡ None
unfolding down
down_none p q s k h = let e : k ≡ 0 = omega arith in rw e refl
