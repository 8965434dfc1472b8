use Rattle.std.proofs.Common.{◌≡◌, ◌-◌}
use Rattle.dump.specs.Order.{line_beside}
use Rattle.dump.proofs.order.line_beside.Given as goal

-- What is still to come finds what the whole finds.
abbrev pub invariant-loop : goal.invariant-loop
invariant-loop l = line_beside l.nodes l.k l.n l.level ≡ line_beside l.nodes (l.k - l.counter) l.at l.high
