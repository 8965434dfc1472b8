use Rattle.std.proofs.Common.{◌∙◌, sym, arith}
use Rattle.places.proofs.Laws.{at_of, last_with_lt}
use Rattle.location.proofs.Laws.{foster_none}
use Rattle.location.proofs.place.foster_place.Goals as goal

pub template_or_table-requires-clause-open : goal.template_or_table-requires-clause-open
template_or_table-requires-clause-open c = last_with_lt _ _ _ _ _ c.requires.whole (sym c.foster_stop.ensures ∙ c.in-Some.is)

pub returns-in-None : goal.returns-in-None
returns-in-None c = c.end_of.ensures ∙ foster_none _ _ c.foster_stop.ensures c.in-None.is (sym (at_of _ _ _ (omega arith)))
