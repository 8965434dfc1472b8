use Rattle.std.proofs.Common.{refl}
use Rattle.names.specs.Text.{text}
use Rattle.names.specs.Table.{names}
use Rattle.names.proofs.put_name.Goals as goal

pub put_in-requires : goal.put_in-requires
unfolding names text
put_in-requires c = record { bytes_are = refl; starts_are = refl }
