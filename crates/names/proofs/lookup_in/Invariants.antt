use Rattle.std.proofs.Common.{◌≡◌, drop}
use Rattle.names.specs.Numbers.{rows, place, number_of}
use Rattle.names.proofs.lookup_in.Given as goal

abbrev pub invariant-loop-n : goal.invariant-loop-n
invariant-loop-n l = number_of l.b ≡ place l.b l.n (drop l.n rows)
