use Rattle.std.proofs.Common.{◌+◌, ◌-◌, ◌≡◌}
use Rattle.standard.specs.Pairs.{pairs_in}
use Rattle.standard.specs.Formatting.{pairs_of, same_pairs}
use Rattle.entries.proofs.tags.are_same.Given as goal

abbrev pub invariant-loop-i : goal.invariant-loop-i
invariant-loop-i l = same_pairs (pairs_of l.pairs l.start l.attributes.count) (pairs_in l.attributes.input.now l.attributes.from l.attributes.count) ≡ same_pairs (pairs_of l.pairs (l.start + l.i) (l.attributes.count - l.i)) (pairs_in l.attributes.input.now l.at (l.attributes.count - l.i))
