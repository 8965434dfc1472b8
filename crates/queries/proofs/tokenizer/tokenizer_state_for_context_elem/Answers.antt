use Rattle.edge.proofs.Laws.{checked_yes}
use Rattle.queries.proofs.QueryLaws as laws
use Rattle.queries.proofs.tokenizer.tokenizer_state_for_context_elem.Goals as goal

pub returns-then-scripting-gt1 : goal.returns-then-scripting-gt1
returns-then-scripting-gt1 c = checked_yes c.is_sound.ensures c.if-not-is_sound.false (laws.tokenizer_bad _ _ _ _ _ _ _ c.if-scripting-gt1.true)

pub returns : goal.returns
returns c = checked_yes c.is_sound.ensures c.if-not-is_sound.false (laws.tokenizer_edge _ _ _ _ _ _ _ c.if-scripting-gt1.false c.for_context.ensures)
