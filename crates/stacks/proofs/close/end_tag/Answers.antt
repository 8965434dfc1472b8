use Rattle.std.proofs.Common.{arith}
use Rattle.stacks.proofs.StackLaws as laws
use Rattle.stacks.proofs.close.end_tag.Goals as goal

pub pop_from-requires-clause-open : goal.pop_from-requires-clause-open
pop_from-requires-clause-open c = let lt = laws.scope_lt _ _ _ _ _ _ c.requires c.named_in_scope.ensures c.in-Some.is in omega arith

pub returns-in-Some-clause-outcome : goal.returns-in-Some-clause-outcome
returns-in-Some-clause-outcome c = laws.end_tag_at _ _ c.named_in_scope.ensures c.requires c.in-Some.is c.pop_from.ensures.outcome

pub returns-in_default-clause-outcome : goal.returns-in_default-clause-outcome
returns-in_default-clause-outcome c = laws.end_tag_none _ _ c.named_in_scope.ensures c.in_default.is
