use Rattle.std.proofs.Common.{ap, arith, ◌≡◌, ◌-◌, ◌+◌}
use Rattle.names.specs.Text.{text}
use Rattle.dump.specs.Line.{text_number, further}
use Rattle.dump.proofs.WrittenLaws.{grew_then, grew_as}
use Rattle.dump.proofs.LineLaws.{further_step, further_none, further_end}
use Rattle.dump.proofs.thing.further.Goals as goal

pub returns-then-piece-eq0 : goal.returns-then-piece-eq0
returns-then-piece-eq0 c = c.loop.invariant _ (further_none _ _ _ _ c.if-piece-eq0.true)

pub loop-preserved : goal.loop-preserved
unfolding text
loop-preserved c = λ p w.
    let l : c.args.k - (c.loop.counter + 1) ≡ c.args.k - c.loop.counter - 1 = omega arith in
    c.loop.invariant p
    (further_step _ _ _ (omega arith) c.if-piece-eq0.false
    (grew_then c.byte.ensures
    (grew_then (grew_as (ap text_number c.get_piece.ensures) c.text_number.ensures)
    (grew_as (ap (further c.args.pieces.now _) c.get_piece-piece.ensures) (rw l at w)))))

pub returns : goal.returns
returns c = c.loop.invariant _ (further_end _ _ _ _ (omega arith))
