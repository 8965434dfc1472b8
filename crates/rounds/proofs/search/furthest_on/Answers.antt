use Rattle.std.proofs.Common.{refl, arith}
use Rattle.names.specs.Sets.{Special}
use Rattle.places.proofs.Laws.{first_none}
use Rattle.places.proofs.First.{first_turn, first_end}
use Rattle.standard.specs.Stack.{is_of}
use Rattle.standard.specs.Adoption.{furthest_of}
use Rattle.rounds.proofs.search.furthest_on.Goals as goal

pub loop-k-init : goal.loop-k-init
loop-k-init c = first_none _ _ refl

pub loop-k-preserved : goal.loop-k-preserved
loop-k-preserved c =
    first_turn _ _ _ (is_of Special c.args.nodes.now) _ c.loop-k.invariant c.requires.whole (omega arith) c.special_at-here.ensures c.first_of-found.ensures

pub returns : goal.returns
unfolding furthest_of
returns c = first_end _ _ c.loop-k.k (is_of Special c.args.nodes.now) _ c.loop-k.invariant c.requires.whole (omega arith)
