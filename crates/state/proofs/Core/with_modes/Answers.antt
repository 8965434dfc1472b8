use Rattle.std.proofs.Common.{rules}
use Rattle.state.specs.Fields.{set_modes, set_counts}
use Rattle.state.proofs.Core.with_modes.Goals as goal

pub returns : goal.returns
unfolding set_modes set_counts
returns c = search rules
