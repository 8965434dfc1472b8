use Rattle.std.proofs.Common.{ap, not, arith}
use Rattle.theory.specs.Says.{says_yes, passed, more}
use Rattle.sound.proofs.View.kinds.Goals as goal

pub loop-x-preserved : goal.loop-x-preserved
loop-x-preserved c = more c.loop-x.invariant (passed c.kind.ensures (ap not c.if-not-kind.false))

pub returns-else-not-kind : goal.returns-else-not-kind
returns-else-not-kind c =
    says_yes (record { kind = λ i z l. more c.loop-x.invariant (passed c.kind.ensures (ap not c.if-not-kind.false)) i z (omega arith) })
