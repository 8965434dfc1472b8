-- Names by number: name n is the table's n-th, counted from 1; 0 is none, and numbers from 512 on are the host's names.
-- Assumes nothing.
use Rattle.std.specs.Prelude.{ℕ, suc, Bool, not, ◌&&◌, ◌||◌, cond, List, [], ◌∷◌, eqb, ltb, leb, get_or}
use Rattle.names.specs.Text.{same}
use Rattle.names.specs.Table.{names, limit}

-- the number that is no name
abbrev pub none : ℕ
none = 0

-- the first of the host's names
abbrev pub host : ℕ
host = 512

-- a name of the table
unfoldable pub in_table : ℕ → Bool
in_table n = not (eqb n none) && ltb n limit

-- a number that is a name: of the table, or one of the host's
unfoldable pub is_name : ℕ → Bool
is_name n = in_table n || leb host n

-- the table's rows by number: row 0 is none's, and has no bytes
abbrev pub rows : List (List ℕ)
rows = [] ∷ names

-- the bytes of name n, and none where n is no name of the table
abbrev pub bytes_of : ℕ → List ℕ
bytes_of n = get_or rows n []

-- the number of the first row that is b, counted from i, and 0 where there is none
abbrev pub place : List ℕ → ℕ → List (List ℕ) → ℕ
place b i [] = none
place b i (x ∷ xs) = cond (same b x) i (place b (suc i) xs)

-- the number of the name with the bytes b
abbrev pub number_of : List ℕ → ℕ
number_of b = place b 1 names
