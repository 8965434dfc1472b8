use Rattle.std.proofs.Common.{◌≡◌, take, drop}
use Rattle.places.specs.Places.{first_of, first_with}
use Rattle.standard.specs.Pairs.{pairs_in}
use Rattle.standard.specs.Formatting.{same_tag}
use Rattle.entries.proofs.surplus.first_same.Given as goal

abbrev pub invariant-loop-i : goal.invariant-loop-i
invariant-loop-i l =
    let has = same_tag l.nodes l.pairs l.t.name (pairs_in l.t.attributes.input.now l.t.attributes.from l.t.attributes.count) in
    let held = take l.size l.list in
    first_with has (drop l.first held) l.first ≡ first_of l.found (first_with has (drop l.i held) l.i)
