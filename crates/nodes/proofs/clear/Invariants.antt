use Rattle.std.proofs.Common.{◌≡◌, ℕ, ◌≤◌, ◌<◌}
use Rattle.lent.specs.Mem.{field}
use Rattle.nodes.proofs.clear.Given as goal

abbrev pub invariant-loop-f : goal.invariant-loop-f
invariant-loop-f l = (g : ℕ) → l.a ≤ g → g < l.f → field l.mem l.x g ≡ 0
