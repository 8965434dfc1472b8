use Rattle.std.proofs.Common.{sym, ◌∙◌}
use Rattle.edge.proofs.Laws.{checked_yes}
use Rattle.queries.specs.BodyElem.{given}
use Rattle.queries.proofs.QueryLaws as laws
use Rattle.queries.proofs.body_elem.body_elem.Goals as goal

pub returns-in-Some-clause-told : goal.returns-in-Some-clause-told
unfolding given
returns-in-Some-clause-told c = checked_yes c.is_sound.ensures c.if-not-is_sound.false (laws.body_edge _ _ _ _ _ _ (sym c.in-Some.is ∙ c.find.ensures))

pub returns-in-Some-clause-node : goal.returns-in-Some-clause-node
returns-in-Some-clause-node c = laws.second_some _ _ _ _ _ _ (c.is_sound.ensures.good c.if-not-is_sound.false) _ (sym c.in-Some.is ∙ c.find.ensures)

pub returns-in-None-clause-told : goal.returns-in-None-clause-told
unfolding given
returns-in-None-clause-told c = checked_yes c.is_sound.ensures c.if-not-is_sound.false (laws.body_edge _ _ _ _ _ _ (sym c.in-None.is ∙ c.find.ensures))
