-- An attribute pair of a record: a name and a text number, each a number of the record. Of a record that `item_at` takes, every one is there.
-- Assumes nothing.
use Rattle.std.specs.Prelude.{ℕ, List, Some, None}
use Rattle.records.specs.Number.{number_at, Read}

-- the value of what was read at i, and what follows it; 0 and i itself where there is no number
abbrev pub value_of : Read → ℕ
value_of (Some (v, n)) = v
value_of None = 0

abbrev pub next_of : Read → ℕ → ℕ
next_of (Some (v, n)) i = n
next_of None i = i

unfoldable pub value_at : List ℕ → ℕ → ℕ
value_at s i = value_of (number_at s i)

unfoldable pub next_at : List ℕ → ℕ → ℕ
next_at s i = next_of (number_at s i) i

-- the pair at i, and what follows it
unfoldable pub name_at : List ℕ → ℕ → ℕ
name_at s i = value_at s i

unfoldable pub text_at : List ℕ → ℕ → ℕ
text_at s i = value_at s (next_at s i)

unfoldable pub pair_next : List ℕ → ℕ → ℕ
pair_next s i = next_at s (next_at s i)
