use Rattle.std.proofs.Common.{ℕ, ◌<◌}
use Rattle.lent.specs.Tree.{links}
use Rattle.theory.specs.Check.{Node}
use Rattle.links.proofs.nodes.Given as goal

abbrev pub invariant-loop-x : goal.invariant-loop-x
invariant-loop-x l = (i : ℕ) → 0 < i → i < l.x → Node (links l.mem) l.c i
