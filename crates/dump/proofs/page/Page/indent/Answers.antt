use Rattle.names.specs.Text.{text}
use Rattle.dump.proofs.WrittenLaws.{grew_then}
use Rattle.dump.proofs.LineLaws.{indent_none, indent_next}
use Rattle.dump.proofs.page.Page.indent.Goals as goal

pub loop-init : goal.loop-init
loop-init c = indent_none _

pub loop-preserved : goal.loop-preserved
unfolding text
loop-preserved c = indent_next _ (grew_then c.loop.invariant (grew_then c.byte.ensures c.byte-in-loop.ensures))
