use Rattle.entries.proofs.SurplusLaws as laws
use Rattle.std.proofs.Common.{arith}
use Rattle.entries.proofs.surplus.how_many.Goals as goal

pub loop-entry-preserved : goal.loop-entry-preserved
loop-entry-preserved c =
    let l = c.loop-entry in
    let o = laws.one_or_none c.is_same_tag.result c.from-n.ensures in
    (omega (arith, o), laws.many_turn _ _ l.entry-index l.n _ (omega arith) c.is_same_tag.ensures c.from-n.ensures l.invariant.1)

pub returns : goal.returns
returns c = let l = c.loop-entry in laws.many_end _ _ l.entry-index l.n (omega arith) l.invariant.1
