use Rattle.std.proofs.Common.{◌≡◌, ◌≤◌, ◌-◌}
use Rattle.makers.proofs.Laws.{cleared}
use Rattle.makers.proofs.make.make_bare.Given as goal

abbrev pub invariant-loop-field : goal.invariant-loop-field
invariant-loop-field l = (1 ≤ l.field) × (l.mem ≡ cleared l.initial.mem l.n.0 (l.field - 1))
