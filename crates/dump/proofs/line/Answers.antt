use Rattle.std.proofs.Common.{◌∙◌, arith}
use Rattle.names.specs.Text.{text}
use Rattle.dump.specs.Line.{line_of}
use Rattle.dump.proofs.WrittenLaws.{grew_then, grew_front}
use Rattle.dump.proofs.line.Goals as goal

pub returns-clause-value : goal.returns-clause-value
unfolding line_of text
returns-clause-value c =
    let w = grew_then c.bytes.ensures (grew_then c.margin.ensures (grew_then c.part.ensures c.byte.ensures)) in
    (grew_front c.new-page.ensures.untouched c.new-page.ensures.front w).0

pub returns-clause-out_after : goal.returns-clause-out_after
unfolding line_of text
returns-clause-out_after c =
    let w = grew_then c.bytes.ensures (grew_then c.margin.ensures (grew_then c.part.ensures c.byte.ensures)) in
    let e = (grew_front c.new-page.ensures.untouched c.new-page.ensures.front w).1 in
    let l = w.loan ∙ c.new-page.ensures.loan in
    grind (arith, e, l)
