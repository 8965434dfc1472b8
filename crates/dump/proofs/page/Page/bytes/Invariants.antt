use Rattle.std.proofs.Common.{take}
use Rattle.dump.specs.Written.{Grew}
use Rattle.dump.proofs.page.Page.bytes.Given as goal

abbrev pub invariant-loop-x : goal.invariant-loop-x
invariant-loop-x l = Grew l.initial.self l.self (take l.x-index l.b)
