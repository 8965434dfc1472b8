use Rattle.std.proofs.Common.{◌≢◌, ℕ, ◌<◌, ◌+◌}
use Rattle.nodes.specs.Nodes.{name_of}
use Rattle.nodes.proofs.absent.Given as goal

abbrev pub invariant-loop-j : goal.invariant-loop-j
invariant-loop-j l = (h : ℕ) → h < l.j → name_of l.pairs (l.s + h) ≢ name_of l.pairs (l.s + l.i)
