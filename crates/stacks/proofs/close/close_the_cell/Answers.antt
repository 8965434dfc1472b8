use Rattle.std.proofs.Common.{arith}
use Rattle.stacks.proofs.StackLaws as laws
use Rattle.stacks.proofs.close.close_the_cell.Goals as goal

pub pop_from-requires-clause-open : goal.pop_from-requires-clause-open
pop_from-requires-clause-open c = let lt = laws.scope_lt _ _ _ _ _ _ c.requires.whole c.cell_in_scope.ensures c.in-Some.is in omega arith

pub clear-requires : goal.clear-requires
clear-requires c = laws.list_whole _ _ _ c.requires.list c.pop_from.ensures.outcome

pub returns-in-Some-clause-outcome : goal.returns-in-Some-clause-outcome
returns-in-Some-clause-outcome c = laws.closed_cell_done _ c.requires.whole c.cell_in_scope.ensures c.in-Some.is c.pop_from.ensures.outcome c.clear.ensures.outcome

pub returns-in-None-clause-outcome : goal.returns-in-None-clause-outcome
returns-in-None-clause-outcome c = laws.closed_cell_none _ c.cell_in_scope.ensures c.in-None.is
