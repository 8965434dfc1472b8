use Rattle.std.proofs.Common.{ℕ, ◌-◌, ap, get_or, ◌∙◌, sym, arith}
use Rattle.places.proofs.Laws.{at_of}
use Rattle.location.proofs.Laws as laws
use Rattle.location.proofs.place.table_place.Goals as goal

pub returns-then-get-eq-NONE : goal.returns-then-get-eq-NONE
returns-then-get-eq-NONE c =
    let s = c.args.h.now in
    let up = ap (λ (i : ℕ). get_or s i 0) c.saturating_sub-up.ensures ∙ sym (at_of s c.args.depth (c.args.i - 1) (omega arith)) in
    c.end_of.ensures ∙ laws.table_loose _ _ _ (sym (at_of _ _ _ (omega arith))) c.get.ensures c.if-get-eq-NONE.true up

pub returns : goal.returns
returns c = c.before_table.ensures ∙ laws.table_parent _ _ _ (sym (at_of _ _ _ (omega arith))) c.get.ensures c.if-get-eq-NONE.false
