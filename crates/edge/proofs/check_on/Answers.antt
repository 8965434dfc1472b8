use Rattle.edge.proofs.Laws.{check_short, check_full}
use Rattle.edge.proofs.check_on.Goals as goal

pub returns-then-h-ne-PLACES : goal.returns-then-h-ne-PLACES
returns-then-h-ne-PLACES c = check_short _ _ _ _ _ _ _ _ c.if-h-ne-PLACES.true

pub returns : goal.returns
returns c = check_full _ _ _ _ _ _ _ _ c.if-h-ne-PLACES.false c.sound.ensures
