use Rattle.places.proofs.Laws.{whole_of}
use Rattle.std.proofs.Common.{arith}
use Rattle.stacks.proofs.StackLaws as laws
use Rattle.stacks.proofs.implied.pop_implied_on.Goals as goal

pub overflow_add-i : goal.overflow_add-i
overflow_add-i c = let lt = laws.kept_lt _ _ _ _ (whole_of _ _ c.requires) c.last_kept_on.ensures c.in-Some.is in omega arith

pub cut_at-requires : goal.cut_at-requires
cut_at-requires c = let lt = laws.kept_lt _ _ _ _ (whole_of _ _ c.requires) c.last_kept_on.ensures c.in-Some.is in (omega arith, omega arith)
