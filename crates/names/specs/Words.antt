-- Sets of names as words of 64 bits: `each` words for each namespace, a bit for each name.
-- Assumes nothing.
use Rattle.std.specs.Prelude.{ℕ, ◌+◌, ◌*◌, ◌/◌, ◌%◌, ◌^◌, Bool, ◌&&◌, List, eqb, ltb, get_or}
use Rattle.names.specs.Space as space
use Rattle.names.specs.Table.{each, span}

abbrev pub in_words : List ℕ → ℕ → ℕ → Bool
in_words ws ns n = ltb ns space.limit && (ltb n span && eqb (get_or ws (ns * each + n / 64) 0 / 2 ^ (n % 64) % 2) 1)
