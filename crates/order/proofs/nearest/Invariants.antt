use Rattle.std.proofs.Common.{◌≡◌, ℕ, ◌≤◌}
use Rattle.lent.specs.Mem.{up}
use Rattle.theory.specs.Depth.{depth}
use Rattle.theory.specs.Nearest.{Memo}
use Rattle.order.proofs.nearest.Given as goal

abbrev pub invariant-loop-y : goal.invariant-loop-y
invariant-loop-y l = (l.y ≤ l.c) × ((nr : ℕ → ℕ) → Memo (up l.mem) l.c nr l.near → nr l.x ≡ nr l.y)

abbrev pub decreases-loop-y : goal.decreases-loop-y
decreases-loop-y l = depth (up l.mem) l.c l.y
