-- The pairs of a record, one at a time, as the loops over them meet them.
-- Assumes nothing.
use Rattle.std.specs.List.{list_any}
use Rattle.std.proofs.Common.{ℕ, zero, suc, ◌+◌, ◌-◌, ◌<◌, ◌≤◌, ◌≡◌, refl, List, [], ◌∷◌, ◌++◌, add-one, sub-one, arith, not-suc-le-zero, length, take, set, take-suc-set, eqb}
use Rattle.names.specs.Sets.{member}
use Rattle.makers.specs.Make.{pair}
use Rattle.records.specs.Pair.{name_at, text_at, pair_next}
use Rattle.standard.specs.Pairs.{pairs_in, stored}

-- ---- a number among some

eqb_swap : (a b : ℕ) → eqb a b ≡ eqb b a
eqb_swap a b = grind arith

pub member_any : (n : ℕ) (xs : List ℕ) → list_any (λ (y : ℕ). eqb y n) xs ≡ member n xs
member_any n [] = refl
member_any n (x ∷ xs) = rw (eqb_swap x n, member_any n xs)

pub seen_more : (xs : List ℕ) (i v : ℕ) → i < length xs → take (i + 1) (set xs i v) ≡ take i xs ++ v ∷ []
seen_more xs i v l = rw add-one (take-suc-set xs i v l)

-- ---- the pairs

pub pairs_more : (s : List ℕ) (i k : ℕ) → 0 < k → pairs_in s i k ≡ (name_at s i, text_at s i) ∷ pairs_in s (pair_next s i) (k - 1)
unfolding pairs_in
pairs_more s i zero h = absurd (not-suc-le-zero h)
pairs_more s i (suc k) h = rw sub-one

pub pairs_none : (s : List ℕ) (i k : ℕ) → k ≤ 0 → pairs_in s i k ≡ []
unfolding pairs_in
pairs_none s i zero h = refl
pairs_none s i (suc k) h = absurd (not-suc-le-zero h)

pub stored_more : (s : List ℕ) (i k : ℕ) (q : List ℕ) (u : ℕ) → 0 < k
    → stored q u (pairs_in s i k) ≡ stored (pair q u (name_at s i) (text_at s i)) (u + 1) (pairs_in s (pair_next s i) (k - 1))
unfolding stored
stored_more s i k q u h = rw (pairs_more s i k h)

pub stored_none : (s : List ℕ) (i k : ℕ) (q : List ℕ) (u : ℕ) → k ≤ 0 → stored q u (pairs_in s i k) ≡ q
unfolding stored
stored_none s i k q u h = rw (pairs_none s i k h)
