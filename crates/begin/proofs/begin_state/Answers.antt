use Rattle.standard.specs.Begin.{begin_state}
use Rattle.begin.proofs.begin_state.Goals as goal

pub returns : goal.returns
unfolding begin_state
returns c = cc
