use Rattle.std.proofs.Common.{◌+◌, ◌-◌}
use Rattle.texts.specs.Texts.{after}
use Rattle.texts.specs.Pieces.{Met}
use Rattle.texts.proofs.chain.Given as goal

abbrev pub invariant-loop-y : goal.invariant-loop-y
invariant-loop-y l = Met (after l.pieces) l.initial.seen l.seen l.u l.x l.y l.last l.k

abbrev pub decreases-loop-y : goal.decreases-loop-y
decreases-loop-y l = l.u + 1 - l.k
