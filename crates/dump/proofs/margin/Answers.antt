use Rattle.names.specs.Text.{text}
use Rattle.dump.proofs.WrittenLaws.{grew_then}
use Rattle.dump.proofs.LineLaws.{margin_below}
use Rattle.dump.proofs.margin.Goals as goal

pub returns : goal.returns
unfolding text
returns c = margin_below c.args.c c.if-c-eq0.false (grew_then c.indent.ensures c.bytes.ensures)
