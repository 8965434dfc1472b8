use Rattle.std.proofs.Common.{rules}
use Rattle.state.specs.Fields.{set_depth}
use Rattle.state.proofs.Core.with_depth.Goals as goal

pub returns : goal.returns
unfolding set_depth
returns c = search rules
