-- How many nodes, pieces and pairs are still free in what is lent, and the number that the next node gets.
-- Assumes nothing.
use Rattle.std.specs.Prelude.{ℕ, ◌+◌, ◌-◌, cond, List, ltb}
use Rattle.lent.specs.Mem.{NODES, PIECES, PAIRS, slots}

-- slot 0 is none, so one slot fewer holds nodes and pieces
unfoldable pub free_nodes : List ℕ → ℕ → ℕ
free_nodes m used = slots NODES m - 1 - used

unfoldable pub free_pieces : List ℕ → ℕ → ℕ
free_pieces p used = slots PIECES p - 1 - used

unfoldable pub free_pairs : List ℕ → ℕ → ℕ
free_pairs q used = slots PAIRS q - used

-- the lowest free number, of nodes and of pieces: 0 where no number is left
unfoldable pub fresh : ℕ → ℕ
fresh used = cond (ltb used 65535) (used + 1) 0
