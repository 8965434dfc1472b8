-- The cases of the definitions that branch, as the code meets them: x is the number that was read, and e says what it is.
-- Assumes nothing.
use Rattle.std.proofs.Common.{ℕ, zero, suc, ◌≤◌, ◌≡◌, refl, ◌∙◌, List, eq-eqb, ne_eqb, arith}
use Rattle.lent.specs.Mem.{field, put_field, PARENT, PREV, NEXT, FIRST, LAST}
use Rattle.arena.specs.Links.{detached, unlinked, reparented, moved, spliced}

pub detached_none : (m : List ℕ) (n : ℕ) {x : ℕ} → x ≡ field m n PARENT → x ≡ 0 → detached m n ≡ m
unfolding detached
detached_none m n e h = rw (← e, eq-eqb _ 0 h)

pub detached_some : (m : List ℕ) (n : ℕ) {x : ℕ} → x ≡ field m n PARENT → (x ≡ 0 → ⊥)
    → detached m n ≡ unlinked m n (field m n PARENT) (field m n PREV) (field m n NEXT)
unfolding detached
detached_some m n e h = rw (ne_eqb (field m n PARENT) 0 (λ z. h (e ∙ z)))

pub moved_none : (m : List ℕ) (a b : ℕ) {x : ℕ} → x ≡ field m a FIRST → x ≡ 0 → moved m a b ≡ m
unfolding moved
moved_none m a b e h = rw (← e, eq-eqb _ 0 h)

pub moved_some : (m : List ℕ) (a b : ℕ) {x : ℕ} → x ≡ field m a FIRST → (x ≡ 0 → ⊥)
    → moved m a b ≡ spliced m a b (field m a FIRST) (field m a LAST) (field m b LAST)
unfolding moved
moved_some m a b e h = rw (ne_eqb (field m a FIRST) 0 (λ z. h (e ∙ z)))

pub reparented_none : (m : List ℕ) (n p k : ℕ) → n ≡ 0 → reparented m n p k ≡ m
unfolding reparented
reparented_none m n p zero h = refl
reparented_none m n p (suc k) h = rw (eq-eqb n 0 h)

pub reparented_zero : (m : List ℕ) (n p k : ℕ) → k ≤ 0 → reparented m n p k ≡ m
unfolding reparented
reparented_zero m n p zero h = refl
reparented_zero m n p (suc k) h = absurd (omega arith)

pub reparented_step : (m : List ℕ) (n p k : ℕ) {j : ℕ} → suc j ≡ k → (n ≡ 0 → ⊥)
    → reparented m n p k ≡ reparented (put_field m n PARENT p) (field (put_field m n PARENT p) n NEXT) p j
unfolding reparented
reparented_step m n p zero e h = absurd (omega arith)
reparented_step m n p (suc k) {j} e h = let z : k ≡ j = omega arith in rw (ne_eqb n 0 h, z)
