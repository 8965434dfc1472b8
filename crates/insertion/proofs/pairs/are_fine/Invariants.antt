use Rattle.std.proofs.Common.{◌-◌, ◌≡◌, [], take}
use Rattle.standard.specs.Pairs.{pairs_in, fine}
use Rattle.insertion.proofs.pairs.are_fine.Given as goal

abbrev pub invariant-loop-i : goal.invariant-loop-i
invariant-loop-i l = fine [] (pairs_in l.input l.from l.count) ≡ fine (take l.i l.seen) (pairs_in l.input l.at (l.count - l.i))
