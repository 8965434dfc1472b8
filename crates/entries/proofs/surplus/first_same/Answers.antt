use Rattle.std.proofs.Common.{refl, arith}
use Rattle.places.proofs.Laws.{first_none}
use Rattle.places.proofs.First.{first_turn, first_end}
use Rattle.entries.proofs.SurplusLaws as laws
use Rattle.entries.proofs.surplus.first_same.Goals as goal

pub loop-i-init : goal.loop-i-init
loop-i-init c = first_none _ _ refl

pub loop-i-preserved : goal.loop-i-preserved
loop-i-preserved c =
    let l = c.loop-i in
    first_turn _ _ l.i _ l.found l.invariant c.requires.whole (omega arith) (laws.here_is _ _ c.then_some-here.ensures c.is_same_tag-same.ensures) c.first_of-found.ensures

pub returns : goal.returns
returns c = let l = c.loop-i in first_end _ _ l.i _ l.found l.invariant c.requires.whole (omega arith)
