use Rattle.std.proofs.Common.{rules}
use Rattle.state.specs.Fields.{core_of}
use Rattle.state.proofs.State.core.Goals as goal

pub returns : goal.returns
unfolding core_of
returns c = search rules
