use Rattle.theory.specs.Nearest.{Placed}
use Rattle.order.proofs.places.Given as goal

abbrev pub invariant-loop-i : goal.invariant-loop-i
invariant-loop-i l = Placed l.c l.entries l.i l.near
