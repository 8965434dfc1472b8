-- Rows laid one after the other: the flat bytes, and where each row starts.
-- Assumes nothing.
use Rattle.std.specs.Prelude.{ℕ, zero, suc, ◌+◌, ◌≡◌, List, [], ◌∷◌, ◌++◌, length}
use Rattle.names.specs.Numbers.{rows}

abbrev pub flat : List (List ℕ) → List ℕ
flat [] = []
flat (x ∷ xs) = x ++ flat xs

-- the starts of the rows, and where the last one ends, counted from i
abbrev pub sums : ℕ → List (List ℕ) → List ℕ
sums i [] = i ∷ []
sums i (x ∷ xs) = i ∷ sums (i + length x) xs

-- the bytes of the first n rows, counted
abbrev pub before : ℕ → List (List ℕ) → ℕ
before zero xs = 0
before (suc n) [] = 0
before (suc n) (x ∷ xs) = length x + before n xs

-- where name n starts in the flat bytes
abbrev pub start_of : ℕ → ℕ
start_of n = before n rows

-- the two lists that lie behind the table: its bytes, and its starts
pub record Laid (bytes starts : List ℕ) : Type 0 where
  pub bytes_are : bytes ≡ flat rows
  pub starts_are : starts ≡ sums 0 rows
