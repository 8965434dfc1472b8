-- The search for the first entry that is wanted, as a loop makes it: what was found so far, or else the first of the entries that are left.
-- And what it finds.
-- Assumes nothing.
use Rattle.std.proofs.Common.{ℕ, suc, ◌+◌, ◌-◌, ◌≤◌, ◌<◌, ◌≡◌, refl, ap, sym, ◌∙◌, Bool, true, false, cond, List, [], ◌∷◌, add-one, arith, length, get_or, take, drop, length-drop, drop_of_length-le, drop-cons, get_or-drop, get_or-take, length-take-le, None, Option, Some}
use Rattle.places.specs.Places.{first_of, first_with}
use Rattle.places.proofs.Laws.{never_at, at_at}

-- ---- one entry, by what a test says of it

-- ---- the steps of a loop over the first `size` entries of l: those from i on are left

first_empty : (p : ℕ → Bool) (k : ℕ) → first_with p [] k ≡ None
unfolding first_with
first_empty p k = refl

first_cons : (p : ℕ → Bool) (x : ℕ) (xs : List ℕ) (k : ℕ) → first_with p (x ∷ xs) k ≡ cond (p x) (Some k) (first_with p xs (k + 1))
unfolding first_with
first_cons p x xs k = refl

-- what was found goes before the entry k, and that before the ones after it
found_one : (b : Bool) (k : ℕ) (f r : Option ℕ) → first_of f (cond b (Some k) r) ≡ first_of (first_of f (cond b (Some k) None)) r
unfolding first_of
found_one b k (Some i) r = refl
found_one true k None r = refl
found_one false k None r = refl

found_all : (f : Option ℕ) → first_of f None ≡ f
unfolding first_of
found_all (Some i) = refl
found_all None = refl

module _ (l : List ℕ) (size i : ℕ) (le : size ≤ length l) where
  pub rest_none : size ≤ i → drop i (take size l) ≡ []
  rest_none h = drop_of_length-le (take size l) {i = i} (omega (arith, length-take-le size l le))

  pub rest_cons : i < size → drop i (take size l) ≡ get_or l i 0 ∷ drop (i + 1) (take size l)
  rest_cons h = drop-cons (take size l) i 0 (omega (arith, length-take-le size l le)) ∙ rw (get_or-take size l i 0 h, add-one)

module _ (l : List ℕ) (size i : ℕ) (p : ℕ → Bool) (f : Option ℕ) {whole : Option ℕ} (inv : whole ≡ first_of f (first_with p (drop i (take size l)) i)) (le : size ≤ length l) where
  pub first_turn : {here next : Option ℕ} → i < size → here ≡ cond (p (get_or l i 0)) (Some i) None → next ≡ first_of f here
      → whole ≡ first_of next (first_with p (drop (i + 1) (take size l)) (i + 1))
  first_turn h eh en =
      let rest = drop (i + 1) (take size l) in
      inv
      ∙ ap (first_of f) (ap (λ (xs : List ℕ). first_with p xs i) (rest_cons l size i le h) ∙ first_cons p (get_or l i 0) rest i)
      ∙ found_one (p (get_or l i 0)) i f (first_with p rest (i + 1))
      ∙ ap (λ (o : Option ℕ). first_of o (first_with p rest (i + 1))) (sym (en ∙ ap (first_of f) eh))

  pub first_end : size ≤ i → f ≡ whole
  first_end h =
      sym (inv ∙ ap (first_of f) (ap (λ (xs : List ℕ). first_with p xs i) (rest_none l size i le h) ∙ first_empty p i) ∙ found_all f)

-- ---- a step of the search among all entries: those from k on are left

-- ---- what is found

-- entry b is one of those from k on, and has p
pub record First (p : ℕ → Bool) (xs : List ℕ) (k b : ℕ) : Type 0 where
  pub from : k ≤ b
  pub below : b < length xs
  pub has : p (get_or xs b 0) ≡ true

-- the same where the entries from k on are all that there is
record Met (p : ℕ → Bool) (xs : List ℕ) (k b : ℕ) : Type 0 where
  from : k ≤ b
  below : b < k + length xs
  has : p (get_or xs (b - k) 0) ≡ true

met : (p : ℕ → Bool) (xs : List ℕ) (k b : ℕ) → first_with p xs k ≡ Some b → Met p xs k b
met p [] k b e = absurd (never_at b (sym (first_empty p k) ∙ e))
met p (x ∷ xs) k b e = by (p x) refl (sym (first_cons p x xs k) ∙ e) (met p xs (k + 1) b)
  where
    by : (o : Bool) → p x ≡ o → cond o (Some k) (first_with p xs (k + 1)) ≡ Some b → (first_with p xs (k + 1) ≡ Some b → Met p xs (k + 1) b) → Met p (x ∷ xs) k b
    by true h g r =
        let z : k ≡ b = at_at k b g in
        let n : b - k ≡ 0 = omega arith in
        record { from = omega arith; below = omega arith; has = rw n h }
    by false h g r =
        let t = r g in
        let n : b - k ≡ suc (b - (k + 1)) = omega (arith, t.from) in
        record { from = omega (arith, t.from); below = omega (arith, t.below); has = rw n t.has }

pub first_from : (p : ℕ → Bool) (xs : List ℕ) (k b : ℕ) → first_with p (drop k xs) k ≡ Some b → First p xs k b
first_from p xs k b e =
    let t = met p (drop k xs) k b e in
    let n : k + (b - k) ≡ b = omega (arith, t.from) in
    record {
      from = t.from;
      below = omega (arith, t.from, t.below, length-drop k xs);
      has = rw (get_or-drop k xs (b - k) 0, n) at t.has;
    }
