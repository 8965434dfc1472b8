use Rattle.std.proofs.Common.{◌+◌, ◌≡◌, take, drop}
use Rattle.names.specs.Sets.{Special}
use Rattle.places.specs.Places.{first_of, first_with}
use Rattle.standard.specs.Stack.{is_of}
use Rattle.rounds.proofs.search.furthest_on.Given as goal

-- What was found so far goes before what is left.
abbrev pub invariant-loop-k : goal.invariant-loop-k
invariant-loop-k l = first_with (is_of Special l.nodes) (drop (l.s + 1) (take l.depth l.h)) (l.s + 1) ≡ first_of l.found (first_with (is_of Special l.nodes) (drop l.k (take l.depth l.h)) l.k)
