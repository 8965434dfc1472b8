use Rattle.std.proofs.Common.{◌≡◌, ◌-◌}
use Rattle.arena.specs.Links.{reparented}
use Rattle.arena.proofs.links.reparent.Given as goal

-- What is still to come does what the whole does.
abbrev pub invariant-loop : goal.invariant-loop
invariant-loop l = reparented l.initial.mem l.n l.p.0 l.k ≡ reparented l.mem l.at l.p.0 (l.k - l.counter)
