use Rattle.std.proofs.Common.{◌∙◌, sym, arith}
use Rattle.places.proofs.Laws.{place_lt}
use Rattle.small.proofs.Laws as laws
use Rattle.small.proofs.cleared_to.Goals as goal

pub cut_at-requires : goal.cut_at-requires
cut_at-requires c = let lt = place_lt _ _ _ _ (omega arith) (sym c.find.ensures ∙ c.in-Some.is) in (omega arith, omega arith)

pub returns-in-Some : goal.returns-in-Some
returns-in-Some c = c.cut_at.ensures.1 ∙ laws.cleared_found _ _ c.find.ensures c.in-Some.is

pub returns-in-None : goal.returns-in-None
returns-in-None c = c.cut_at-in-None.ensures.1 ∙ laws.cleared_none _ c.find.ensures c.in-None.is
