use Rattle.std.proofs.Common.{◌∙◌}
use Rattle.adopted.proofs.FinishLaws as laws
use Rattle.adopted.proofs.finish.adopt.Goals as goal

pub returns-clause-steps : goal.returns-clause-steps
returns-clause-steps c =
    laws.adopted_is _ _ _ _ _ _ _ c.args.b.now.core _ _ _ c.requires.open c.requires.block c.saturating_sub-up.ensures c.walk_up-w.ensures.outcome c.finish.ensures.outcome

pub returns-clause-outcome : goal.returns-clause-outcome
returns-clause-outcome c = λ j e g.
    laws.adopted_is _ _ _ _ _ _ _ c.args.b.now.core _ _ _ c.requires.open c.requires.block c.saturating_sub-up.ensures c.walk_up-w.ensures.outcome c.finish.ensures.outcome
    ∙ laws.adopted_same _ _ _ _ _ c.requires.firm c.requires.open c.requires.block e g
