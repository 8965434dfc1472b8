use Rattle.std.proofs.Common.{ℕ, ◌<◌}
use Rattle.nodes.specs.Nodes.{Kind}
use Rattle.sound.proofs.View.kinds.Given as goal

abbrev pub invariant-loop-x : goal.invariant-loop-x
invariant-loop-x l = (i : ℕ) → 0 < i → i < l.x → Kind l.self.nodes.now l.self.pairs.now l.self.counts.nodes l.self.counts.pairs i
