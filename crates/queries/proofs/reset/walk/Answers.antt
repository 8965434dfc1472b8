use Rattle.std.proofs.Common.{sym, ◌∙◌, rules, arith}
use Rattle.queries.specs.Reset.{onward}
use Rattle.queries.proofs.ResetLaws.{turn}
use Rattle.queries.proofs.reset.walk.Goals as goal

pub returns-in-Some : goal.returns-in-Some
unfolding onward
returns-in-Some c =
    sym (c.loop-k.invariant ∙ turn _ _ _ _ _ c.loop-k.k (omega arith) (search rules) c.standing-e.ensures c.mode_at.ensures ∙ rw c.in-Some.is)

pub loop-k-preserved : goal.loop-k-preserved
unfolding onward
loop-k-preserved c =
    c.loop-k.invariant ∙ turn _ _ _ _ _ c.loop-k.k (omega arith) (search rules) c.standing-e.ensures c.mode_at.ensures ∙ rw c.in_default.is
