use Rattle.std.proofs.Common.{ap}
use Rattle.dump.specs.Line.{text_number, further}
use Rattle.dump.proofs.WrittenLaws.{grew_then, grew_as}
use Rattle.dump.proofs.LineLaws.{text_none, text_some}
use Rattle.dump.proofs.thing.text.Goals as goal

pub returns-then-i-eq0 : goal.returns-then-i-eq0
returns-then-i-eq0 c = text_none _ _ _ c.if-i-eq0.true

pub returns : goal.returns
returns c = text_some _ _ c.if-i-eq0.false
    (grew_then (grew_as (ap text_number c.get_piece.ensures) c.text_number.ensures)
    (grew_as (ap (further c.args.pieces.now 8191) c.get_piece-then.ensures) c.further.ensures))
