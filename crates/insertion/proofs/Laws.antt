-- How much can be free, and how many nodes an element takes.
-- Assumes nothing.
use Rattle.std.proofs.Common.{ℕ, ◌-◌, ◌≤◌, Bool, true, false, cond, List, arith}
use Rattle.lent.specs.Mem.{slots}
use Rattle.lent.specs.Room.{free_nodes, free_pieces}
use Rattle.makers.specs.Make.{nodes_of, is_template}
use Rattle.makers.specs.declared.make.Tag.{Tag}

-- what is free is no more than what the numbers leave
pub nodes_left : (m : List ℕ) (used : ℕ) → free_nodes m used ≤ 4096 - used
unfolding free_nodes slots
nodes_left m used = omega arith

pub pieces_left : (p : List ℕ) (used : ℕ) → free_pieces p used ≤ 8192 - used
unfolding free_pieces slots
pieces_left p used = omega arith

-- an element takes one node or two
pub nodes_some : (t : Tag) → (1 ≤ nodes_of t) × (nodes_of t ≤ 2)
unfolding nodes_of
nodes_some t = by (is_template t)
  where
    by : (b : Bool) → (1 ≤ cond b 2 1) × (cond b 2 1 ≤ 2)
    by true = (omega arith, omega arith)
    by false = (omega arith, omega arith)
