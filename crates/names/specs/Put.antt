-- Bytes written into a list from a place on, where they fit there.
-- Assumes nothing.
use Rattle.std.specs.Prelude.{ℕ, ◌+◌, Bool, cond, List, ◌++◌, leb, length, take, drop}
use Rattle.names.specs.Numbers.{bytes_of}

abbrev pub fits : List ℕ → List ℕ → ℕ → Bool
fits out b at = leb (at + length b) (length out)

-- out once b is written from at on: as it was where b does not fit
unfoldable pub put_at : List ℕ → List ℕ → ℕ → List ℕ
put_at out b at = cond (fits out b at) (take at out ++ (b ++ drop (at + length b) out)) out

-- the place after b: at where b does not fit
unfoldable pub after_put : List ℕ → List ℕ → ℕ → ℕ
after_put out b at = cond (fits out b at) (at + length b) at

-- the same for the bytes of a name: a number that is no name of the table has none, so that nothing is written
abbrev pub put_name : List ℕ → ℕ → ℕ → List ℕ
put_name out n at = put_at out (bytes_of n) at

abbrev pub after_name : List ℕ → ℕ → ℕ → ℕ
after_name out n at = after_put out (bytes_of n) at
