use Rattle.std.proofs.Common.{refl}
use Rattle.names.specs.Text.{text}
use Rattle.names.specs.Table.{names}
use Rattle.names.proofs.lookup.Goals as goal

pub lookup_in-requires : goal.lookup_in-requires
unfolding names text
lookup_in-requires c = record { bytes_are = refl; starts_are = refl }
