use Rattle.places.proofs.Laws.{of_whole}
use Rattle.std.proofs.Common.{arith}
use Rattle.stacks.proofs.StackLaws as laws
use Rattle.stacks.proofs.implied.pop_implied.Goals as goal

pub overflow_add-i : goal.overflow_add-i
overflow_add-i c = let lt = laws.kept_lt _ _ _ _ c.requires c.last_kept.ensures c.in-Some.is in omega (arith, lt, of_whole _ _ c.requires)

pub pop_from-requires-clause-open : goal.pop_from-requires-clause-open
pop_from-requires-clause-open c = let lt = laws.kept_lt _ _ _ _ c.requires c.last_kept.ensures c.in-Some.is in omega arith

pub returns-in-Some-clause-outcome : goal.returns-in-Some-clause-outcome
returns-in-Some-clause-outcome c = rw (← laws.ends_some _ _ _ _ c.requires c.last_kept.ensures c.in-Some.is) c.pop_from.ensures.outcome

pub returns-in-None-clause-outcome : goal.returns-in-None-clause-outcome
returns-in-None-clause-outcome c = rw (← laws.ends_none _ _ _ _ c.requires c.last_kept.ensures c.in-None.is) c.pop_from-in-None.ensures.outcome
