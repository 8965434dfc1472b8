use Rattle.std.proofs.Common.{◌≡◌, ◌≤◌, ◌+◌, ◌-◌, ◌*◌, length}
use Rattle.lent.specs.Mem.{PARENT}
use Rattle.theory.specs.Count.{lists, roots}
use Rattle.links.specs.Links.{kids_of, field_of}
use Rattle.links.proofs.total.Given as goal

abbrev pub invariant-loop-x : goal.invariant-loop-x
invariant-loop-x l = (l.x ≤ l.c + 1) × (l.n ≤ (l.x - 1) * 65536) × (l.n ≡ length (lists (kids_of l.mem l.c) (l.x - 1)) + length (roots (field_of l.mem PARENT) (l.x - 1)))
