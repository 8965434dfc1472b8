use Rattle.std.proofs.Common.{◌-◌, ◌+◌, ◌≡◌}
use Rattle.standard.specs.Pairs.{pairs_in, stored}
use Rattle.insertion.proofs.pairs.store.Given as goal

abbrev pub invariant-loop-i : goal.invariant-loop-i
invariant-loop-i l = stored l.fn.pairs l.used (pairs_in l.input l.from l.count) ≡ stored l.pairs (l.used + l.i) (pairs_in l.input l.at (l.count - l.i))
