use Rattle.adopted.proofs.WalkLaws as laws
use Rattle.adopted.proofs.walk.renew_at.Goals as goal

pub returns-clause-outcome : goal.returns-clause-outcome
returns-clause-outcome c = laws.renewed_at_lem _ _ _ _ _ _ _ c.args.b.now.core _ _ _ _ _ _ _ c.requires.open c.requires.room c.next-new.ensures c.renew.ensures c.swap_at.ensures c.swap_at-2.ensures c.with_nodes-b.ensures c.marked.ensures
