use Rattle.std.proofs.Common.{◌≡◌}
use Rattle.places.specs.Places.{places_of}
use Rattle.queries.specs.Reset.{walked}
use Rattle.queries.proofs.reset.walk.Given as goal

-- The entries that have been passed decide nothing.
abbrev pub invariant-loop-k : goal.invariant-loop-k
invariant-loop-k l =
    walked l.nodes (places_of l.stack.handles l.stack.depth) l.context l.head l.stack.depth
    ≡ walked l.nodes (places_of l.stack.handles l.stack.depth) l.context l.head l.k
