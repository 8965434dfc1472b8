use Rattle.std.proofs.Common.{arith}
use Rattle.places.specs.Places.{places_of}
use Rattle.places.proofs.Laws.{of_whole}
use Rattle.reconstruct.proofs.Laws as laws
use Rattle.reconstruct.proofs.first_lost.Goals as goal

pub overflow_add-result : goal.overflow_add-result
overflow_add-result c =
    let list = places_of c.args.b.now.list.now c.args.b.now.core.counts.list in
    let lt = laws.lost_lt _ list c.last_kept.ensures c.in-Some.is in
    omega (arith, lt, c.requires.list.all, of_whole _ _ c.requires.list)

pub returns-in-Some-clause-most : goal.returns-in-Some-clause-most
returns-in-Some-clause-most c =
    let list = places_of c.args.b.now.list.now c.args.b.now.core.counts.list in
    let lt = laws.lost_lt _ list c.last_kept.ensures c.in-Some.is in
    omega (arith, lt, c.requires.list.all)
