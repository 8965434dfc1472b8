-- Room for nodes, pieces and pairs: what is lent, counted in slots, and what the tests for free ones say.
-- Assumes nothing.
use Rattle.std.specs.Prelude.{ℕ, suc, ◌+◌, ◌-◌, ◌*◌, ◌≤◌, ◌<◌, ◌≡◌, true, false, List, length, eqb, ltb}
use Rattle.std.proofs.Common.{arith, lt-ltb, ltb-false}
use Rattle.std.proofs.lemmas.Bool.{eqb-false}
use Rattle.lent.specs.Mem.{Region, NODES, PIECES, PAIRS, slots, inside}
use Rattle.lent.specs.Room.{free_nodes, free_pieces, free_pairs, fresh}

-- a slot below the count lies in the bytes
pub held_in : (r : Region) (m : List ℕ) (n : ℕ) → n < slots r m → inside r m n ≡ true
unfolding inside
held_in r m n h = lt-ltb n (slots r m) h

-- ---- the bytes as the rules count them

pub node_slots : (m : List ℕ) (c : ℕ) → (c ≤ 4096) × ((c + 1) * 32 ≤ length m) → c < slots NODES m
unfolding slots
node_slots m c h = omega arith

pub slots_nodes : (m : List ℕ) (c : ℕ) → c < slots NODES m → (c ≤ 4096) × ((c + 1) * 32 ≤ length m)
unfolding slots
slots_nodes m c h = (omega arith, omega arith)

pub slots_pieces : (p : List ℕ) (v : ℕ) → v < slots PIECES p → (v ≤ 8192) × (0 < v → (v + 1) * 4 ≤ length p)
unfolding slots
slots_pieces p v h = (omega arith, λ z. omega arith)

pair_slots : (q : List ℕ) (u : ℕ) → (u ≤ 4096) × (u * 4 ≤ length q) → u ≤ slots PAIRS q
unfolding slots
pair_slots q u h = omega arith

pub slots_pairs : (q : List ℕ) (u : ℕ) → u ≤ slots PAIRS q → (u ≤ 4096) × (u * 4 ≤ length q)
unfolding slots
slots_pairs q u h = (omega arith, omega arith)

-- ---- the tests

pub room_node : (m : List ℕ) (c : ℕ) → eqb (free_nodes m c) 0 ≡ false → suc c < slots NODES m
unfolding free_nodes
room_node m c e = let h = eqb-false (slots NODES m - 1 - c) 0 e in omega arith

pub room_nodes : (m : List ℕ) (c n : ℕ) → 0 < n → ltb (free_nodes m c) n ≡ false → c + n < slots NODES m
unfolding free_nodes
room_nodes m c n z e = omega (arith, ltb-false (slots NODES m - 1 - c) n e)

pub room_piece : (p : List ℕ) (v : ℕ) → eqb (free_pieces p v) 0 ≡ false → suc v < slots PIECES p
unfolding free_pieces
room_piece p v e = let h = eqb-false (slots PIECES p - 1 - v) 0 e in omega arith

pub room_pairs : (q : List ℕ) (u n : ℕ) → (u ≤ 4096) × (u * 4 ≤ length q) → ltb (free_pairs q u) n ≡ false → u + n ≤ slots PAIRS q
unfolding free_pairs
room_pairs q u n a e = omega (arith, ltb-false (slots PAIRS q - u) n e, pair_slots q u a)

-- the number after a node's
pub fresh_next : (m : List ℕ) (n : ℕ) → n < slots NODES m → fresh n ≡ suc n
unfolding fresh slots
fresh_next m n h = rw (lt-ltb n 65535 (omega arith)) (omega arith)
