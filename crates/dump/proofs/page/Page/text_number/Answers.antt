use Rattle.names.specs.Text.{text}
use Rattle.dump.specs.Line.{text_number}
use Rattle.dump.proofs.WrittenLaws.{grew_then}
use Rattle.dump.proofs.page.Page.text_number.Goals as goal

pub returns : goal.returns
unfolding text_number text
returns c = grew_then c.byte.ensures c.number.ensures
