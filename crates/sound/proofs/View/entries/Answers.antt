use Rattle.std.proofs.Common.{ap, not}
use Rattle.theory.specs.Says.{passed, below}
use Rattle.sound.proofs.View.entries.Goals as goal

pub loop-i-preserved : goal.loop-i-preserved
loop-i-preserved c = below c.loop-i.invariant (passed c.entry.ensures (ap not c.if-not-entry.false))
