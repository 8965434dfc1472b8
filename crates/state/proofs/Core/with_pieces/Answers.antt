use Rattle.std.proofs.Common.{rules}
use Rattle.state.specs.Fields.{set_pieces, set_counts}
use Rattle.state.proofs.Core.with_pieces.Goals as goal

pub returns : goal.returns
unfolding set_pieces set_counts
returns c = search rules
