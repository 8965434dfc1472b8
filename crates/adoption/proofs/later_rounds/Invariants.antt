use Rattle.std.proofs.Common.{◌≡◌, ◌-◌}
use Rattle.state.specs.Builder.{SameLoans, full_of}
use Rattle.adopted.specs.Firm.{Firm}
use Rattle.rounds.specs.Turns.{turn_of, further}
use Rattle.adoption.proofs.later_rounds.Given as goal

-- There is room for the rounds that are left, and they do what is left to do.
abbrev pub invariant-loop-round : goal.invariant-loop-round
invariant-loop-round l = record {
  loans : SameLoans l.initial.b l.b;
  firm : Firm (full_of l.b).stack (full_of l.b).list (full_of l.b).nodes.used (8 - l._round);
  rest : further (turn_of l.initial.again (full_of l.initial.b)) l.name 7 ≡ further (turn_of l.again (full_of l.b)) l.name (8 - l._round);
}
