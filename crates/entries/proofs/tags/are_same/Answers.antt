use Rattle.entries.proofs.TagLaws as laws
use Rattle.std.proofs.Common.{arith}
use Rattle.entries.proofs.tags.are_same.Goals as goal

pub loop-i-preserved : goal.loop-i-preserved
loop-i-preserved c = let a = c.args in
    let l = c.loop-i in
    laws.same_turn a.pairs.now a.attributes.input.now a.start l.at a.attributes.count l.i (omega arith) c.pair_at-p.ensures.0 c.pair_field.ensures l.invariant c.if-pair_field-p.false c.pair_at-p.ensures.1 c.pair_field-in-loop-i.ensures c.if-pair_field-p-2.false c.pair_at-p.ensures.2
