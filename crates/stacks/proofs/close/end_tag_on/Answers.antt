use Rattle.places.proofs.Laws.{whole_of}
use Rattle.std.proofs.Common.{arith}
use Rattle.stacks.proofs.StackLaws as laws
use Rattle.stacks.proofs.close.end_tag_on.Goals as goal

pub cut_at-requires : goal.cut_at-requires
cut_at-requires c = let lt = laws.scope_lt _ _ _ _ _ _ (whole_of _ _ c.requires) c.named_in_scope_on.ensures c.in-Some.is in (omega arith, omega arith)

pub returns-in-Some : goal.returns-in-Some
returns-in-Some c = λ l m p q x.
    laws.end_tag_at _ _ c.named_in_scope_on.ensures (whole_of _ _ c.requires) c.in-Some.is (laws.stack_cut _ _ l m p q x _ _ _ _ c.cut_at.ensures.1 c.with_depth.ensures)

pub returns-in-None : goal.returns-in-None
returns-in-None c = λ l m p q x. laws.end_tag_none _ _ c.named_in_scope_on.ensures c.in-None.is
