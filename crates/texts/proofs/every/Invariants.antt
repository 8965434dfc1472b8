use Rattle.std.proofs.Common.{◌≡◌, ◌≤◌, ◌+◌, ◌-◌, length}
use Rattle.texts.specs.Texts.{Going}
use Rattle.texts.proofs.every.Given as goal

-- the nodes before n are done
abbrev pub invariant-loop-n : goal.invariant-loop-n
invariant-loop-n l = (l.n ≤ l.c + 1) × (length l.seen ≡ length l.initial.seen) × Going l.mem l.pieces l.seen l.u (l.n - 1) l.t
