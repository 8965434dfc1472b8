use Rattle.std.proofs.Common.{◌∙◌, sym, arith}
use Rattle.places.proofs.Down.{down_hit, down_stop, down_next, down_none}
use Rattle.places.proofs.last_with.Goals as goal

pub returns-then-hit : goal.returns-then-hit
returns-then-hit g c = λ p q hp hq.
    sym (c.loop-k.invariant p q hp hq ∙ down_hit p q c.args.s.now c.loop-k.k _ (omega arith) (sym (hp _ _ c.hit.ensures) ∙ c.if-hit.true))

pub returns-then-stop : goal.returns-then-stop
returns-then-stop g c = λ p q hp hq.
    sym (c.loop-k.invariant p q hp hq ∙ down_stop p q c.args.s.now c.loop-k.k _ (omega arith) (sym (hp _ _ c.hit.ensures) ∙ c.if-hit.false) (sym (hq _ _ c.stop.ensures) ∙ c.if-stop.true))

pub loop-k-preserved : goal.loop-k-preserved
loop-k-preserved g c = λ p q hp hq.
    c.loop-k.invariant p q hp hq ∙ down_next p q c.args.s.now c.loop-k.k _ (omega arith) (sym (hp _ _ c.hit.ensures) ∙ c.if-hit.false) (sym (hq _ _ c.stop.ensures) ∙ c.if-stop.false)

pub returns : goal.returns
returns g c = λ p q hp hq. sym (c.loop-k.invariant p q hp hq ∙ down_none p q c.args.s.now c.loop-k.k (omega arith))
