use Rattle.std.proofs.Common.{rules}
use Rattle.state.specs.Fields.{set_nodes, set_counts}
use Rattle.state.proofs.Core.with_nodes.Goals as goal

pub returns : goal.returns
unfolding set_nodes set_counts
returns c = search rules
