use Rattle.std.proofs.Common.{sym}
use Rattle.places.proofs.Laws.{at_of}
use Rattle.reconstruct.proofs.Laws as laws
use Rattle.reconstruct.proofs.make_anew.Goals as goal

pub push-size-requires : goal.push-size-requires
push-size-requires c = laws.free_place _ _ _ (laws.with_nodes_stack _ _ _ _ c.copy_in-n.ensures.outcome) c.requires.places

pub swap_at-requires : goal.swap_at-requires
swap_at-requires c = laws.in_list _ _ _ _ (laws.with_nodes_list _ _ _ _ c.copy_in-n.ensures.outcome) c.requires.list c.requires.entry

pub returns-clause-outcome : goal.returns-clause-outcome
returns-clause-outcome c =
    laws.anew_done _ _ _ _ _ _ _ _ _ _ _ _ _ _ _ (sym (at_of _ _ _ c.requires.entry)) c.copy_in-n.ensures.number c.copy_in-n.ensures.outcome c.push-size.ensures.1 c.swap_at.ensures c.with_depth-b.ensures
