use Rattle.std.proofs.Common.{arith}
use Rattle.stacks.proofs.StackLaws as laws
use Rattle.stacks.proofs.close.close_p_element.Goals as goal

pub pop_from-requires-clause-open : goal.pop_from-requires-clause-open
pop_from-requires-clause-open c = let lt = laws.scope_lt _ _ _ _ _ _ c.requires c.named_in_scope.ensures c.in-Some.is in omega arith

pub returns-in-Some-clause-outcome : goal.returns-in-Some-clause-outcome
returns-in-Some-clause-outcome c = laws.closed_p_done _ c.requires c.named_in_scope.ensures c.in-Some.is c.pop_from.ensures.outcome

pub returns-in-None-clause-outcome : goal.returns-in-None-clause-outcome
returns-in-None-clause-outcome c = laws.closed_p_none _ c.named_in_scope.ensures c.in-None.is
