use Rattle.dump.specs.Line.{indent}
use Rattle.dump.specs.Written.{Grew}
use Rattle.dump.proofs.page.Page.indent.Given as goal

abbrev pub invariant-loop : goal.invariant-loop
invariant-loop l = Grew l.initial.self l.self (indent l.counter)
