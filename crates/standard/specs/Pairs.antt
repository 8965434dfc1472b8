-- The attribute pairs of a call: how they are read from the record, when they are allowed, and where they are stored.
-- Assumes nothing.
use Rattle.std.specs.Prelude.{ℕ, zero, suc, ◌+◌, Bool, true, not, ◌&&◌, List, [], ◌∷◌, ◌++◌}
use Rattle.names.specs.Numbers.{is_name}
use Rattle.names.specs.Sets.{member}
use Rattle.makers.specs.Make.{pair}
use Rattle.records.specs.Pair.{name_at, text_at, pair_next}

-- k pairs from byte i of the input on: names and text numbers
unfoldable pub pairs_in : List ℕ → ℕ → ℕ → List (ℕ × ℕ)
pairs_in s i zero = []
pairs_in s i (suc k) = (name_at s i, text_at s i) ∷ pairs_in s (pair_next s i) k

-- each name is known, and none stands twice or among the earlier ones
unfoldable pub fine : List ℕ → List (ℕ × ℕ) → Bool
fine earlier [] = true
fine earlier (x ∷ xs) = is_name x.0 && (not (member x.0 earlier) && fine (earlier ++ x.0 ∷ []) xs)

-- the pairs stored from number u on
unfoldable pub stored : List ℕ → ℕ → List (ℕ × ℕ) → List ℕ
stored q u [] = q
stored q u (x ∷ xs) = stored (pair q u x.0 x.1) (u + 1) xs
