use Rattle.places.specs.Places.{at}
use Rattle.places.proofs.Laws.{of_whole, place_lt}
use Rattle.rounds.proofs.TurnLaws as laws
use Rattle.rounds.proofs.SearchLaws.{furthest_lt}
use Rattle.rounds.proofs.turns.with_block.Goals as goal

pub remove_at-fewer-requires : goal.remove_at-fewer-requires
remove_at-fewer-requires c = let fits = of_whole _ _ c.requires.firm.list in (place_lt _ _ _ _ fits c.requires.listed, fits)

pub adopt-requires-clause-block : goal.adopt-requires-clause-block
adopt-requires-clause-block c = furthest_lt _ _ _ _ c.requires.firm.stack c.furthest.ensures c.in-Some.is

pub returns-in-Some-clause-outcome : goal.returns-in-Some-clause-outcome
unfolding at
returns-in-Some-clause-outcome c = laws.block_at_lem _ _ _ _ c.furthest.ensures c.in-Some.is (c.adopt.ensures.outcome _ c.requires.listed c.requires.here)
