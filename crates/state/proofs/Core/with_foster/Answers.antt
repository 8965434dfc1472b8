use Rattle.std.proofs.Common.{rules}
use Rattle.state.specs.Fields.{set_foster, set_flags}
use Rattle.state.proofs.Core.with_foster.Goals as goal

pub returns : goal.returns
unfolding set_foster set_flags
returns c = search rules
