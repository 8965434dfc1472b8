use Rattle.std.proofs.Common.{rules}
use Rattle.state.specs.Fields.{set_head, set_flags}
use Rattle.state.proofs.Core.with_head.Goals as goal

pub returns : goal.returns
unfolding set_head set_flags
returns c = search rules
