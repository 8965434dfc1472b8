use Rattle.std.proofs.Common.{ap}
use Rattle.names.specs.Text.{text}
use Rattle.dump.specs.Digits.{digits}
use Rattle.dump.specs.Line.{pair_of, text_number}
use Rattle.dump.proofs.WrittenLaws.{grew_then, grew_as}
use Rattle.dump.proofs.thing.pair.Goals as goal

pub returns : goal.returns
unfolding pair_of text
returns c = grew_then c.byte.ensures
    (grew_then (grew_as (ap digits c.pair_field.ensures) c.number.ensures)
    (grew_then c.byte-2.ensures
    (grew_as (ap text_number c.pair_field-2.ensures) c.text_number.ensures)))
