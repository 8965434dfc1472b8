use Rattle.kept.specs.Step.{sound_ready}
use Rattle.calls.proofs.call_at.Goals as goal

pub call-requires : goal.call-requires
call-requires c = sound_ready _ c.requires
