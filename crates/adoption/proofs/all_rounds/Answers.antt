use Rattle.std.proofs.Common.{◌∙◌, arith}
use Rattle.rounds.proofs.TurnLaws.{round_of}
use Rattle.rounds.proofs.FirmLaws.{firm_next}
use Rattle.adoption.proofs.Laws.{rounds_first}
use Rattle.adoption.proofs.all_rounds.Goals as goal

pub later_rounds-requires : goal.later_rounds-requires
later_rounds-requires c = firm_next _ _ _ 8 (omega arith) (round_of _ _ c.one_round-first.ensures.outcome) c.requires

pub returns-clause-outcome : goal.returns-clause-outcome
returns-clause-outcome c = c.later_rounds.ensures.outcome ∙ rounds_first _ _ (round_of _ _ c.one_round-first.ensures.outcome)
