use Rattle.std.proofs.Common.{◌≢◌, ℕ, ◌<◌, ◌+◌}
use Rattle.nodes.specs.Nodes.{name_of}
use Rattle.nodes.proofs.distinct.Given as goal

abbrev pub invariant-loop-i : goal.invariant-loop-i
invariant-loop-i l = (b : ℕ) → b < l.i → (a : ℕ) → a < b → name_of l.pairs (l.s + a) ≢ name_of l.pairs (l.s + b)
