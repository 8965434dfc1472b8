use Rattle.std.proofs.Common.{◌≡◌, ◌+◌, ◌-◌, length}
use Rattle.lent.specs.Mem.{NEXT}
use Rattle.links.specs.Links.{field_of}
use Rattle.theory.specs.Pigeon.{walk}
use Rattle.links.proofs.met.Given as goal

abbrev pub invariant-loop-n : goal.invariant-loop-n
invariant-loop-n l = l.n + length (walk (field_of l.mem NEXT) (l.k - l.n) l.at) ≡ length (walk (field_of l.mem NEXT) l.k l.x)
