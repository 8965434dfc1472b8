use Rattle.edge.proofs.Laws.{says_edge}
use Rattle.edge.proofs.is_sound.Goals as goal

pub returns : goal.returns
returns c = says_edge _ _ _ _ _ _ c.core-core.ensures c.check_on.ensures
