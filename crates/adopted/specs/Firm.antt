-- What the adoption agency relies on: open elements (s) are used nodes, entries of the list (l) are used nodes or markers, and k rounds,
-- of at most four nodes each, stay within the largest number of nodes. All of it holds in a sound state with room.
-- Assumes nothing.
use Rattle.std.specs.Prelude.{ℕ, ◌+◌, ◌*◌, ◌≤◌, ◌<◌, ◌≡◌, ◌⊎◌, length, get_or}
use Rattle.places.specs.Places.{Places, Whole}
use Rattle.standard.specs.Small.{MARKER}

pub record Firm (s l : Places) (count k : ℕ) : Type 0 where
  pub stack : Whole s
  pub list : Whole l
  pub used : (i : ℕ) → i < length s.held → get_or s.held i 0 ≤ count
  pub listed : (i : ℕ) → i < length l.held → (get_or l.held i 0 ≤ count) ⊎ (get_or l.held i 0 ≡ MARKER)
  pub room : count + 4 * k ≤ 4096
