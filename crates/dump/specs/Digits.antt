-- Numbers in decimal, as bytes.
-- Assumes nothing.
use Rattle.std.specs.Prelude.{ℕ, ◌+◌, ◌/◌, ◌%◌, cond, List, [], ◌∷◌, ◌++◌, ltb}

-- a digit's byte
abbrev pub digit : ℕ → ℕ
digit d = 48 + d

-- the digit of n that counts by p: none where n is less than p, so that no 0 stands in front
unfoldable pub digit_at : ℕ → ℕ → List ℕ
digit_at p n = cond (ltb n p) [] (digit (n / p % 10) ∷ [])

-- the digits of n, of which there are at most five
unfoldable pub digits : ℕ → List ℕ
digits n = digit_at 10000 n ++ (digit_at 1000 n ++ (digit_at 100 n ++ (digit_at 10 n ++ (digit (n % 10) ∷ []))))
