use Rattle.std.proofs.Common.{ℕ, ◌<◌}
use Rattle.sound.specs.Sound.{Entry}
use Rattle.sound.proofs.View.entries.Given as goal

abbrev pub invariant-loop-i : goal.invariant-loop-i
invariant-loop-i l = (j : ℕ) → j < l.i → Entry l.self.nodes.now l.self.counts.nodes l.self.list.now j
