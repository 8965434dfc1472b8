use Rattle.std.proofs.Common.{List, ℕ, ap, ◌∙◌, suc, arith, length-set}
use Rattle.theory.specs.Depth.{deeper}
use Rattle.theory.specs.Nearest.{memo_set}
use Rattle.order.specs.Say.{Marked}
use Rattle.order.proofs.mark.Invariants.{Going}
use Rattle.order.proofs.mark.Goals as goal

done : {f : ℕ → ℕ} {near₀ near : List ℕ} {c x v z : ℕ} → Going f near₀ near c x v z → Marked f near₀ near c x v
done g = record { long = g.long; kept = λ nr m e. (g.kept nr m e).0 }

pub loop-z-smaller : goal.loop-z-smaller
loop-z-smaller c = let a = c.loop-z in
    let g = c.requires.given in
    rw c.up-z.ensures.0 (omega (arith, deeper g.range g.ends a.z (omega arith) a.invariant.used))

pub loop-z-preserved : goal.loop-z-preserved
loop-z-preserved c = let a = c.loop-z in
    let g = c.requires.given in
    rw c.up-z.ensures.0
    (record {
      used = g.range.le a.z (omega arith) a.invariant.used;
      long = length-set a.near a.z _ ∙ a.invariant.long;
      kept = λ nr m e.
          let t = a.invariant.kept nr m e in (
            memo_set a.z _ t.0 (omega arith) t.1,
            t.1 ∙ ap suc (t.0.shut a.z (omega arith) a.invariant.used c.if-near-z-eq0.true),
          );
    })

pub returns-after-loop-z : goal.returns-after-loop-z
returns-after-loop-z c = done c.loop-z.invariant

pub returns-else-near-z-eq0 : goal.returns-else-near-z-eq0
returns-else-near-z-eq0 c = done c.loop-z.invariant
