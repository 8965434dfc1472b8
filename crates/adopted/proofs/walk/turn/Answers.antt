use Rattle.std.proofs.Common.{sym, ◌∙◌, arith}
use Rattle.places.proofs.Laws.{of_whole, place_lt}
use Rattle.adopted.proofs.WalkLaws as laws
use Rattle.adopted.proofs.walk.turn.Goals as goal

pub leave_both-requires-clause-listed : goal.leave_both-requires-clause-listed
leave_both-requires-clause-listed c = place_lt _ _ _ _ (of_whole _ _ c.requires.list) (sym c.listed.ensures ∙ c.in-Some.is)

pub renew_at-requires-clause-listed : goal.renew_at-requires-clause-listed
renew_at-requires-clause-listed c = place_lt _ _ _ _ (of_whole _ _ c.requires.list) (sym c.listed.ensures ∙ c.in-Some.is)

pub returns-then-leaves-clause-outcome : goal.returns-then-leaves-clause-outcome
returns-then-leaves-clause-outcome c = laws.turn_past _ _ _ _ _ _ c.listed.ensures c.in-Some.is (omega (arith, c.if-leaves.true)) c.leave_both.ensures.outcome
