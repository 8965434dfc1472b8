use Rattle.std.proofs.Common.{rules}
use Rattle.dump.proofs.LineLaws.{space_html}
use Rattle.dump.proofs.thing.space.Goals as goal

pub returns-in_default : goal.returns-in_default
returns-in_default c = search (rules, space_html)
