-- The number that the next node or piece gets is the lowest free one: where the numbers from 1 to `used` are used, it is the first
-- after them, so that none that is free is lower. `room::next` gives it.
-- Assumes nothing.
use Rattle.std.proofs.Common.{ℕ, zero, suc, ◌+◌, ◌≤◌, ◌<◌, ◌≡◌, refl, ◌∙◌, List, arith, lt-ltb, le-ltb}
use Rattle.lent.specs.Mem.{slots}
use Rattle.lent.specs.Room.{free_nodes, free_pieces, fresh}

-- it is the one after the used ones
pub fresh_is : (used : ℕ) → used < 65535 → fresh used ≡ used + 1
unfolding fresh
fresh_is used h = rw (lt-ltb used 65535 h)

-- .. and 0, none, where 65,535 are used
pub fresh_none : (used : ℕ) → 65535 ≤ used → fresh used ≡ 0
unfolding fresh
fresh_none used h = rw (le-ltb used 65535 h)

-- it is not used, and every lower one is
pub fresh_lowest : (used : ℕ) → used < 65535 → (0 < fresh used) × (used < fresh used) × ((n : ℕ) → 0 < n → n < fresh used → n ≤ used)
fresh_lowest used h = rw (fresh_is used h) (omega arith, omega arith, λ n z k. omega arith)

-- ---- where something is free, there are fewer than the most

pub nodes_few : (m : List ℕ) (used : ℕ) {k : ℕ} → k ≡ free_nodes m used → (k ≡ 0 → ⊥) → used < 4096
unfolding free_nodes slots
nodes_few m used e h = by (free_nodes m used) refl
  where
    by : (k : ℕ) → free_nodes m used ≡ k → used < 4096
    by zero q = absurd (h (e ∙ q))
    by (suc k) q = omega (arith, q)

pub pieces_few : (p : List ℕ) (used : ℕ) {k : ℕ} → k ≡ free_pieces p used → (k ≡ 0 → ⊥) → used < 8192
unfolding free_pieces slots
pieces_few p used e h = by (free_pieces p used) refl
  where
    by : (k : ℕ) → free_pieces p used ≡ k → used < 8192
    by zero q = absurd (h (e ∙ q))
    by (suc k) q = omega (arith, q)
