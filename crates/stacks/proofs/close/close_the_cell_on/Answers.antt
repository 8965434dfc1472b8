use Rattle.places.proofs.Laws.{whole_of}
use Rattle.small.proofs.Laws.{cleared_done}
use Rattle.std.proofs.Common.{arith}
use Rattle.stacks.proofs.StackLaws as laws
use Rattle.stacks.proofs.close.close_the_cell_on.Goals as goal

pub cut_at-requires : goal.cut_at-requires
cut_at-requires c = let lt = laws.scope_lt _ _ _ _ _ _ (whole_of _ _ c.requires.stack) c.cell_in_scope_on.ensures c.in-Some.is in (omega arith, omega arith)

pub returns-in-Some : goal.returns-in-Some
returns-in-Some c = λ m p q x.
    laws.closed_cell_done _ (whole_of _ _ c.requires.stack) c.cell_in_scope_on.ensures c.in-Some.is
    (laws.stack_cut _ _ _ m p q x _ _ _ _ c.cut_at.ensures.1 c.with_depth-popped.ensures)
    (cleared_done _ _ _ m p q x _ _ _ c.cleared_to-count.ensures c.with_list.ensures)
