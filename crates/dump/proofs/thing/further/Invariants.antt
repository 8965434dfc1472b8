use Rattle.std.proofs.Common.{◌-◌}
use Rattle.dump.specs.Line.{further}
use Rattle.dump.specs.Written.{Grew}
use Rattle.dump.specs.declared.page.Page.{Page}
use Rattle.dump.proofs.thing.further.Given as goal

-- What is still to come writes, from here, what the whole writes.
abbrev pub invariant-loop : goal.invariant-loop
invariant-loop l = (p : Page) → Grew l.page p (further l.pieces (l.k - l.counter) l.piece) → Grew l.initial.page p (further l.pieces l.k l.i)
