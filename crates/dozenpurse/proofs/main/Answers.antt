use Rattle.std.proofs.Common.{rules}
use Rattle.dozenpurse.proofs.Laws.{begin_can}
use Rattle.dozenpurse.proofs.main.Goals as goal

pub leaflet-done-requires : goal.leaflet-done-requires
leaflet-done-requires c = begin_can _ _ (search rules)
