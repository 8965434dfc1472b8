use Rattle.reconstruct.proofs.Laws as laws
use Rattle.reconstruct.proofs.reconstruct_active_formatting_elements.Goals as goal

pub make_all-requires-clause-nodes : goal.make_all-requires-clause-nodes
make_all-requires-clause-nodes c = laws.nodes_enough _ _ _ _ c.requires.nodes c.free_nodes.ensures c.if-free_nodes-lost.false
