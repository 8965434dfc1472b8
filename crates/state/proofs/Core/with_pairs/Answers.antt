use Rattle.std.proofs.Common.{rules}
use Rattle.state.specs.Fields.{set_pairs, set_counts}
use Rattle.state.proofs.Core.with_pairs.Goals as goal

pub returns : goal.returns
unfolding set_pairs set_counts
returns c = search rules
