use Rattle.reconstruct.proofs.Laws as laws
use Rattle.reconstruct.proofs.copy_in.Goals as goal

pub returns-clause-outcome : goal.returns-clause-outcome
returns-clause-outcome c =
    laws.copied_in _ _ _ _ _ _ _ _ _ _ c.requires.nodes c.usual_place-p.ensures c.next-n.ensures c.copy_element.ensures c.attach.ensures c.with_nodes-b.ensures
