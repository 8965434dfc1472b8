-- A number's digits as they are written, one after the other; and that they are the decimal digits: their value is the number.
-- Assumes nothing.
use Rattle.std.proofs.Common.{◌≡◌, sym, ap, ◌∙◌, append_assoc, ◌++◌, List, [], ◌∷◌, ℕ, ◌+◌, ◌-◌, ◌*◌, ◌/◌, ◌%◌, ◌≤◌, ◌<◌, decimal, arith, lt-ltb, le-ltb}
use Rattle.std.proofs.Math.Decide.{dec_lt}
use Rattle.std.proofs.lemmas.Fmt.{decimal_by_steps}
use Rattle.dump.specs.Digits.{digit_at, digits}

digit_at_none : (p n : ℕ) → n < p → digit_at p n ≡ []
unfolding digit_at
digit_at_none p n h = rw (lt-ltb n p h)

digit_at_one : (p n : ℕ) → p ≤ n → digit_at p n ≡ (48 + n / p % 10) ∷ []
unfolding digit_at
digit_at_one p n h = rw (le-ltb n p h)

-- ---- they are what std writes of a number

-- a digit of the number without its last digit is one of the number
shift : (p q n : ℕ) → (n / 10 < p → n < q) → (p ≤ n / 10 → q ≤ n) → n / 10 / p ≡ n / q → digit_at p (n / 10) ≡ digit_at q n
shift p q n l g e = by (dec_lt (n / 10) p)
  where
    by : Dec (n / 10 < p) → digit_at p (n / 10) ≡ digit_at q n
    by (yes h) = digit_at_none p (n / 10) h ∙ sym (digit_at_none q n (l h))
    by (no h) = let k : p ≤ n / 10 = omega arith in digit_at_one p (n / 10) k ∙ rw e (sym (digit_at_one q n (g k)))

digits_step : (n : ℕ) → 10 ≤ n → n < 100000 → digits n ≡ digits (n / 10) ++ (48 + n % 10) ∷ []
unfolding digits
digits_step n h k =
    rw (
      digit_at_none 10000 (n / 10) (omega arith),
      shift 1000 10000 n (λ z. omega arith) (λ z. omega arith) (omega arith),
      shift 100 1000 n (λ z. omega arith) (λ z. omega arith) (omega arith),
      shift 10 100 n (λ z. omega arith) (λ z. omega arith) (omega arith),
      digit_at_one 10 n h,
    )
    (simp append_assoc)

digits_one : (n : ℕ) → n < 10 → digits n ≡ (48 + n) ∷ []
unfolding digits
digits_one n h =
    let e : n % 10 ≡ n = omega arith in
    rw (digit_at_none 10000 n (omega arith), digit_at_none 1000 n (omega arith), digit_at_none 100 n (omega arith), digit_at_none 10 n h, e)

pub digits_decimal : (n : ℕ) → n < 100000 → decimal n ≡ digits n
digits_decimal n h =
    sym
    (decimal_by_steps (λ (m : ℕ) (ds : List ℕ). m < 100000 → digits m ≡ ds) (λ m l k. digits_one m l)
    (λ m ds l i k. digits_step m l k ∙ ap (λ (xs : List ℕ). xs ++ (48 + m % 10) ∷ []) (i (omega arith))) n (omega arith) h)

-- ---- the digits are those of the number

-- the number that the digits d after the number a make
abbrev read : ℕ → List ℕ → ℕ
read a [] = a
read a (d ∷ ds) = read (a * 10 + (d - 48)) ds

plain : (a d : ℕ) → a * 10 + (48 + d - 48) ≡ a * 10 + d
plain a d = omega arith

-- a digit more is divided off
hundreds : (n : ℕ) → n / 100 ≡ n / 10 / 10
hundreds n = omega arith

thousands : (n : ℕ) → n / 1000 ≡ n / 100 / 10
thousands n = omega arith

ten_thousands : (n : ℕ) → n / 10000 ≡ n / 1000 / 10
ten_thousands n = omega arith

-- the digit in front is all that is left
front : (q : ℕ) → q < 10 → q % 10 ≡ q
front q h = omega arith

pub digits_read : (n : ℕ) → n < 100000 → read 0 (digits n) ≡ n
unfolding digits
digits_read n h = by (dec_lt n 10) (dec_lt n 100) (dec_lt n 1000) (dec_lt n 10000)
  where
    by : Dec (n < 10) → Dec (n < 100) → Dec (n < 1000) → Dec (n < 10000) → read 0 (digits n) ≡ n
    by (yes a) _ _ _ = simp (digit_at_none 10000 n (omega arith), digit_at_none 1000 n (omega arith), digit_at_none 100 n (omega arith), digit_at_none 10 n a, plain) (omega arith)
    by (no a) (yes b) _ _ =
        simp (digit_at_none 10000 n (omega arith), digit_at_none 1000 n (omega arith), digit_at_none 100 n b, digit_at_one 10 n (omega arith), plain)
        (omega arith)
    by (no a) (no b) (yes d) _ =
        simp (digit_at_none 10000 n (omega arith), digit_at_none 1000 n d, digit_at_one 100 n (omega arith), digit_at_one 10 n (omega arith), plain)
        (omega (arith, hundreds n))
    by (no a) (no b) (no d) (yes e) =
        simp (digit_at_none 10000 n e, digit_at_one 1000 n (omega arith), digit_at_one 100 n (omega arith), digit_at_one 10 n (omega arith), plain)
        (omega (arith, hundreds n, thousands n, front (n / 1000) (omega arith)))
    by (no a) (no b) (no d) (no e) =
        simp (digit_at_one 10000 n (omega arith), digit_at_one 1000 n (omega arith), digit_at_one 100 n (omega arith), digit_at_one 10 n (omega arith), plain)
        (omega (arith, hundreds n, thousands n, ten_thousands n, front (n / 10000) (omega arith)))
