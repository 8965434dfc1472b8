use Rattle.std.proofs.Common.{sym, ap, ◌∙◌, suc, arith}
use Rattle.theory.specs.Depth.{deeper}
use Rattle.order.proofs.nearest.Goals as goal

pub returns-then-near-y-ne0 : goal.returns-then-near-y-ne0
returns-then-near-y-ne0 c = let a = c.loop-y in
    record {
      fits = omega (arith, c.type_inv.near a.y);
      is = λ nr m. m.right a.y (omega arith) a.invariant.0 c.if-near-y-ne0.true ∙ ap suc (sym (a.invariant.1 nr m));
    }

pub loop-y-smaller : goal.loop-y-smaller
loop-y-smaller c = let a = c.loop-y in
    let g = c.requires.given in
    rw c.up-y.ensures.0 (omega (arith, deeper g.range g.ends a.y (omega arith) a.invariant.0))

pub loop-y-preserved : goal.loop-y-preserved
loop-y-preserved c = let a = c.loop-y in
    let g = c.requires.given in
    rw c.up-y.ensures.0 (
      g.range.le a.y (omega arith) a.invariant.0,
      λ nr m. a.invariant.1 nr m ∙ m.shut a.y (omega arith) a.invariant.0 c.if-near-y-ne0.false,
    )

pub returns : goal.returns
returns c = let a = c.loop-y in
    record { fits = omega arith; is = λ nr m. ap suc (sym (a.invariant.1 nr m ∙ ap nr c.loop-y-test.false ∙ m.none)) }
