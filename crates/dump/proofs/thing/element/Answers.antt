use Rattle.std.proofs.Common.{ap}
use Rattle.names.specs.Text.{text}
use Rattle.dump.specs.Line.{element_of, space_of, name_of}
use Rattle.dump.proofs.WrittenLaws.{grew_then, grew_as}
use Rattle.dump.proofs.thing.element.Goals as goal

pub returns : goal.returns
unfolding element_of text
returns c = grew_then c.byte.ensures
    (grew_then (grew_as (ap space_of c.get.ensures) c.space.ensures)
    (grew_then (grew_as (ap name_of c.get-2.ensures) c.name.ensures)
    c.byte-2.ensures))
