-- Laws of the lookup. From the table's order: the bytes of a name give its number, and a number that is given has the bytes.
-- And the lookup as a scan of the rows from a number on.
-- Assumes nothing.
use Rattle.std.proofs.Common.{◌≡◌, refl, sym, ◌∙◌, ap, ◌⊎◌, inl, inr, Bool, true, false, ◌&&◌, List, [], ◌∷◌, ℕ, zero, suc, ◌+◌, ◌≤◌, ◌<◌, zero-le, suc-le-suc, add-zero, add-suc, suc-add, le_of_suc-le-suc, not-suc-le-zero, arith, eqb, length, get_or, drop, drop_of_length-le, drop-cons, eqb-true, eq-eqb}
use Rattle.std.proofs.Math.Bool.{false≢true}
use Rattle.std.specs.Cmp.Lexicographic.{pointwise}
use Rattle.names.specs.Text.{same}
use Rattle.names.specs.Table.{names, limit}
use Rattle.names.specs.Numbers.{rows, bytes_of, place, number_of}
use Rattle.names.specs.Order.{is_before}
use Rattle.names.proofs.Ordered.{is_before_irrefl}
use Rattle.names.proofs.Rows.{names_length, in_order_at}

-- the test is true of equal strings, and only of them
pub same_yes : (a b : List ℕ) → same a b ≡ true → a ≡ b
same_yes [] [] e = refl
same_yes [] (y ∷ ys) e = absurd (false≢true e)
same_yes (x ∷ xs) [] e = absurd (false≢true e)
same_yes (x ∷ xs) (y ∷ ys) e = go (same_yes xs ys) (eqb x y) refl e
  where
    go : (same xs ys ≡ true → xs ≡ ys) → (t : Bool) → eqb x y ≡ t → t && same xs ys ≡ true → x ∷ xs ≡ y ∷ ys
    go r true f g =
        let p : x ≡ y = eqb-true x y f in
        let q : xs ≡ ys = r g in
        cc
    go r false f g = absurd (false≢true g)

pub same_refl : (a : List ℕ) → same a a ≡ true
same_refl [] = refl
same_refl (x ∷ xs) = rw (eq-eqb x x refl, same_refl xs)

-- the test is that of `==`
pub same_pointwise : (a b : List ℕ) → same a b ≡ pointwise eqb a b
same_pointwise [] [] = refl
same_pointwise [] (y ∷ ys) = refl
same_pointwise (x ∷ xs) [] = refl
same_pointwise (x ∷ xs) (y ∷ ys) = ap (λ (t : Bool). eqb x y && t) (same_pointwise xs ys)

differs : (a b : List ℕ) → (b ≡ a → ⊥) → same a b ≡ false
differs a b h = go (same a b) refl
  where
    go : (t : Bool) → same a b ≡ t → same a b ≡ false
    go true e = absurd (h (sym (same_yes a b e)))
    go false e = e

-- of any list of strings: the first that is b stands at k, and what is given is there
place_first : (b : List ℕ) (i : ℕ) (xs : List (List ℕ)) (k : ℕ) → k < length xs → get_or xs k [] ≡ b
    → ((j : ℕ) → j < k → get_or xs j [] ≡ b → ⊥) → place b i xs ≡ i + k
place_first b i [] k l e h = absurd (not-suc-le-zero l)
place_first b i (x ∷ xs) zero l e h = rw (e, same_refl b) (sym (add-zero i))
place_first b i (x ∷ xs) (suc k) l e h =
    rw (differs b x (h 0 (suc-le-suc zero-le)))
    (place_first b (suc i) xs k (le_of_suc-le-suc l) e (λ j m. h (suc j) (suc-le-suc m)) ∙ suc-add i k ∙ sym (add-suc i k))

record At (b : List ℕ) (i : ℕ) (xs : List (List ℕ)) : Type 0 where
  k : ℕ
  within : k < length xs
  is : place b i xs ≡ i + k
  there : get_or xs k [] ≡ b

place_at : (b : List ℕ) (i : ℕ) (xs : List (List ℕ)) → (place b i xs ≡ 0) ⊎ At b i xs
place_at b i [] = inl refl
place_at b i (x ∷ xs) = go (place_at b (suc i) xs) (same b x) refl
  where
    go : (place b (suc i) xs ≡ 0) ⊎ At b (suc i) xs → (t : Bool) → same b x ≡ t → (place b i (x ∷ xs) ≡ 0) ⊎ At b i (x ∷ xs)
    go r true e = inr (record { k = 0; within = suc-le-suc zero-le; is = rw e (sym (add-zero i)); there = sym (same_yes b x e) })
    go (inl r) false e = inl (rw e r)
    go (inr r) false e =
        inr (record {
          k = suc r.k;
          within = suc-le-suc r.within;
          is = rw e (r.is ∙ suc-add i r.k ∙ sym (add-suc i r.k));
          there = r.there;
        })

-- the names differ
pub apart : (p q : ℕ) → 0 < p → p < q → q < limit → bytes_of p ≡ bytes_of q → ⊥
apart p q z h l e = false≢true (sym (is_before_irrefl (bytes_of p)) ∙ ap (is_before (bytes_of p)) e ∙ in_order_at p q z h l)

-- from number to bytes and back
pub there_and_back : (n : ℕ) → 0 < n → n < limit → number_of (bytes_of n) ≡ n
there_and_back zero h l = absurd (not-suc-le-zero h)
there_and_back (suc k) h l =
    place_first (bytes_of (suc k)) 1 names k (omega (arith, names_length)) refl
    (λ j m. apart (suc j) (suc k) (suc-le-suc zero-le) (suc-le-suc m) l)
    ∙ omega arith

-- from bytes to number and back: what is given is 0, or a number of the table with these bytes
pub record Found (b : List ℕ) (n : ℕ) : Type 0 where
  pub within : n < limit
  pub there : bytes_of n ≡ b

pub back_and_there : (b : List ℕ) (n : ℕ) → number_of b ≡ n → (n ≡ 0 → ⊥) → Found b n
back_and_there b n e h = go (place_at b 1 names)
  where
    go : (place b 1 names ≡ 0) ⊎ At b 1 names → Found b n
    go (inl f) = absurd (h (sym e ∙ f))
    go (inr r) =
        let q : n ≡ suc r.k = omega (arith, r.is, e) in
        record { within = omega (arith, r.within, names_length); there = rw q r.there }

-- the scan: the lookup ends at row n or goes on after it, and past the last row it gives 0
module _ (b : List ℕ) (n : ℕ) where
  module _ (h : n < limit) where
    pub scan_hit : same b (bytes_of n) ≡ true → place b n (drop n rows) ≡ n
    scan_hit e = rw (drop-cons rows n [] (omega (arith, names_length)), e)

    pub scan_miss : same b (bytes_of n) ≡ false → place b n (drop n rows) ≡ place b (suc n) (drop (suc n) rows)
    scan_miss e = rw (drop-cons rows n [] (omega (arith, names_length)), e)

  pub scan_past : limit ≤ n → place b n (drop n rows) ≡ 0
  scan_past h = rw (drop_of_length-le rows {i = n} (omega (arith, names_length)))
