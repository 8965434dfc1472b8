use Rattle.std.proofs.Common.{rules}
use Rattle.edge.proofs.Laws.{checked_yes}
use Rattle.queries.proofs.QueryLaws as laws
use Rattle.queries.proofs.foreign.is_foreign.Goals as goal

pub returns-in_err-token : goal.returns-in_err-token
returns-in_err-token c = checked_yes c.is_sound.ensures c.if-not-is_sound.false (laws.foreign_bad _ _ _ _ _ _ _ _ _ c.in_err-token.ensures.unknown.0 (search rules))

pub adjusted_current_node-e-requires-clause-some : goal.adjusted_current_node-e-requires-clause-some
adjusted_current_node-e-requires-clause-some c = laws.depth_some _ _ _ _ _ _ (c.is_sound.ensures.good c.if-not-is_sound.false)

pub adjusted_current_node-e-requires-clause-deep : goal.adjusted_current_node-e-requires-clause-deep
adjusted_current_node-e-requires-clause-deep c = laws.depth_most _ _ _ _ _ _ (c.is_sound.ensures.good c.if-not-is_sound.false)

pub returns : goal.returns
returns c =
    checked_yes c.is_sound.ensures c.if-not-is_sound.false
    (laws.foreign_good _ _ _ _ _ _ _ _ c.in_ok-token.ensures.known.0 c.adjusted_current_node-e.ensures (rw c.in_ok-token.ensures.known.1 at c.is_html_content.ensures))
