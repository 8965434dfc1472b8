use Rattle.std.proofs.Common.{◌∙◌, sym, arith}
use Rattle.places.proofs.Laws.{at_of}
use Rattle.location.proofs.Laws as laws
use Rattle.location.proofs.place.template_or_table.Goals as goal

pub returns-then-is_html : goal.returns-then-is_html
returns-then-is_html c = c.end_of.ensures ∙ laws.is_template_lem _ _ _ (sym (at_of _ _ _ (omega arith))) c.is_html.ensures c.if-is_html.true

pub returns : goal.returns
returns c = c.table_place.ensures ∙ laws.is_table _ _ _ (sym (at_of _ _ _ (omega arith))) c.is_html.ensures c.if-is_html.false
