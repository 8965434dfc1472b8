use Rattle.standard.specs.Begin.{begin_nodes}
use Rattle.begin.proofs.begin_nodes.Goals as goal

pub returns : goal.returns
unfolding begin_nodes
returns c = cc
