use Rattle.std.proofs.Common.{sym, ◌∙◌, refl}
use Rattle.edge.proofs.Laws.{checked_yes}
use Rattle.queries.specs.Reset.{given}
use Rattle.queries.proofs.QueryLaws as laws
use Rattle.queries.proofs.reset.reset_insertion_mode.Goals as goal

pub walk-requires : goal.walk-requires
walk-requires c = laws.depth_most _ _ _ _ _ _ (c.is_sound.ensures.good c.if-not-is_sound.false)

pub returns-in-Mode : goal.returns-in-Mode
unfolding given
returns-in-Mode c = checked_yes c.is_sound.ensures c.if-not-is_sound.false (laws.reset_edge _ _ _ _ _ _ refl (sym c.in-Mode.is ∙ c.walk.ensures))

pub slice_bounds-modes-end : goal.slice_bounds-modes-end
slice_bounds-modes-end c = laws.modes_whole _ _ _ _ _ _ (c.is_sound.ensures.good c.if-not-is_sound.false)

pub returns-in-Template : goal.returns-in-Template
returns-in-Template c =
    let ok = c.is_sound.ensures.good c.if-not-is_sound.false in
    checked_yes c.is_sound.ensures c.if-not-is_sound.false
    (laws.reset_edge _ _ _ _ _ _ (c.current_mode.ensures ∙ laws.given_whole _ _ (laws.modes_whole _ _ _ _ _ _ ok)) (sym c.in-Template.is ∙ c.walk.ensures))
