use Rattle.std.proofs.Common.{rules}
use Rattle.state.specs.Fields.{set_list, set_counts}
use Rattle.state.proofs.Core.with_list.Goals as goal

pub returns : goal.returns
unfolding set_list set_counts
returns c = search rules
