use Rattle.adopted.proofs.FinishLaws as laws
use Rattle.adopted.proofs.finish.finish.Goals as goal

pub returns-clause-outcome : goal.returns-clause-outcome
returns-clause-outcome c = laws.finished_is _ _ _ _ _ _ _ c.args.b.now.core _ _ _ _ _ _ _ _ _ c.requires.room c.next-new.ensures (laws.placed_is _ _ _ _ _ _ _ c.args.b.now.core _ _ c.appropriate_place_for_insertion-place.ensures c.detach.ensures c.attach.ensures) c.rehang.ensures c.exchange-depth.ensures.1 c.relist-count.ensures.places c.with_nodes.ensures c.with_depth.ensures c.with_list-b.ensures
