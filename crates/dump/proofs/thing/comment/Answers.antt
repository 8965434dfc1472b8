use Rattle.std.proofs.Common.{ap}
use Rattle.names.specs.Text.{text}
use Rattle.dump.specs.Line.{comment_of, text_number}
use Rattle.dump.proofs.WrittenLaws.{grew_then, grew_as}
use Rattle.dump.proofs.thing.comment.Goals as goal

pub returns : goal.returns
unfolding comment_of text
returns c = grew_then c.bytes.ensures (grew_then (grew_as (ap text_number c.get.ensures) c.text_number.ensures) c.bytes-2.ensures)
