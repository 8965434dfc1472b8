use Rattle.std.proofs.Common.{◌≡◌, true, ℕ, ◌<◌}
use Rattle.names.specs.Numbers.{is_name}
use Rattle.nodes.specs.Nodes.{name_of}
use Rattle.sound.proofs.View.known.Given as goal

abbrev pub invariant-loop-i : goal.invariant-loop-i
invariant-loop-i l = (j : ℕ) → j < l.i → is_name (name_of l.self.pairs.now j) ≡ true
