use Rattle.std.proofs.Common.{◌+◌, ◌≤◌, ◌≡◌, drop}
use Rattle.standard.specs.Pairs.{pairs_in}
use Rattle.standard.specs.Formatting.{same_tag, how_many}
use Rattle.entries.proofs.surplus.how_many.Given as goal

abbrev pub invariant-loop-entry : goal.invariant-loop-entry
invariant-loop-entry l =
    let has = same_tag l.nodes l.pairs l.t.name (pairs_in l.t.attributes.input.now l.t.attributes.from l.t.attributes.count) in
    (l.n ≤ l.entry-index) × (how_many has l.entries ≡ l.n + how_many has (drop l.entry-index l.entries))
