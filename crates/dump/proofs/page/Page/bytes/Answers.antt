use Rattle.dump.proofs.WrittenLaws.{grew_none, grew_next}
use Rattle.dump.proofs.page.Page.bytes.Goals as goal

pub loop-x-init : goal.loop-x-init
loop-x-init c = grew_none _

pub loop-x-preserved : goal.loop-x-preserved
loop-x-preserved c = grew_next c.args.b.now c.loop-x.x-index c.loop-x-test.true c.loop-x.invariant c.byte.ensures
