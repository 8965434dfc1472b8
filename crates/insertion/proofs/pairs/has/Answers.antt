use Rattle.std.proofs.Common.{◌∙◌}
use Rattle.insertion.proofs.PairsLaws.{member_any}
use Rattle.insertion.proofs.pairs.has.Goals as goal

pub returns : goal.returns
returns c = c.contains.ensures.value ∙ member_any c.args.n c.args.xs.now
