use Rattle.names.specs.Text.{text}
use Rattle.dump.proofs.WrittenLaws.{grew_then}
use Rattle.dump.proofs.LineLaws.{name_host}
use Rattle.dump.proofs.page.Page.name.Goals as goal

pub returns : goal.returns
unfolding text
returns c = name_host _ c.if-n-lt-HOST.false (grew_then c.byte.ensures c.number.ensures)
