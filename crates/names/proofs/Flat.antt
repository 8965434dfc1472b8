-- Laws of rows laid one after the other, for any list of rows: where a row starts, how long it is, and what its bytes are.
-- Assumes nothing.
use Rattle.std.proofs.Common.{◌≡◌, refl, sym, ◌∙◌, ap, List, [], ◌∷◌, ℕ, zero, suc, ◌+◌, ◌≤◌, add-zero, add_assoc, le_of_suc-le-suc, not-suc-le-zero, arith, length, get_or, take, drop, length-append}
use Rattle.std.proofs.Math.Seq.{take-append_seam, drop-append-add}
use Rattle.names.specs.Flat.{flat, before, sums}

pub sums_at : (i : ℕ) (xs : List (List ℕ)) (n : ℕ) → n ≤ length xs → get_or (sums i xs) n 0 ≡ i + before n xs
sums_at i [] zero h = sym (add-zero i)
sums_at i [] (suc n) h = absurd (not-suc-le-zero h)
sums_at i (x ∷ xs) zero h = sym (add-zero i)
sums_at i (x ∷ xs) (suc n) h = sums_at (i + length x) xs n (le_of_suc-le-suc h) ∙ add_assoc i (length x) (before n xs)

pub before_suc : (xs : List (List ℕ)) (n : ℕ) → before (suc n) xs ≡ before n xs + length (get_or xs n [])
before_suc [] zero = refl
before_suc [] (suc n) = refl
before_suc (x ∷ xs) zero = omega arith
before_suc (x ∷ xs) (suc n) = let e : before (suc n) xs ≡ before n xs + length (get_or xs n []) = before_suc xs n in omega arith

pub before_fits : (xs : List (List ℕ)) (n : ℕ) → before n xs ≤ length (flat xs)
before_fits [] zero = omega arith
before_fits [] (suc n) = omega arith
before_fits (x ∷ xs) zero = omega arith
before_fits (x ∷ xs) (suc n) =
    let e : before n xs ≤ length (flat xs) = before_fits xs n in
    omega (arith, length-append x (flat xs))

pub flat_part : (xs : List (List ℕ)) (n : ℕ) → take (length (get_or xs n [])) (drop (before n xs) (flat xs)) ≡ get_or xs n []
flat_part [] zero = refl
flat_part [] (suc n) = refl
flat_part (x ∷ xs) zero = take-append_seam x (flat xs)
flat_part (x ∷ xs) (suc n) = rw (drop-append-add x (flat xs) (before n xs)) (flat_part xs n)

pub length_sums : (i : ℕ) (xs : List (List ℕ)) → length (sums i xs) ≡ suc (length xs)
length_sums i [] = refl
length_sums i (x ∷ xs) = ap suc (length_sums (i + length x) xs)
