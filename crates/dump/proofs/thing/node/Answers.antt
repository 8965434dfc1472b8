use Rattle.std.proofs.Common.{rules}
use Rattle.dump.proofs.LineLaws.{node_other}
use Rattle.dump.proofs.thing.node.Goals as goal

pub returns-in_default : goal.returns-in_default
returns-in_default c = search (rules, node_other)
