use Rattle.entries.proofs.SurplusLaws as laws
use Rattle.places.proofs.Laws.{whole_of}
use Rattle.std.proofs.Common.{arith}
use Rattle.entries.proofs.surplus.after_marker.Goals as goal

pub overflow_add-result : goal.overflow_add-result
overflow_add-result c = let lt = laws.marker_lt _ _ (whole_of _ _ c.requires) c.find.ensures c.in-Some.is in omega arith

pub returns-in-Some-clause-most : goal.returns-in-Some-clause-most
returns-in-Some-clause-most c = let lt = laws.marker_lt _ _ (whole_of _ _ c.requires) c.find.ensures c.in-Some.is in omega arith
