use Rattle.std.proofs.Common.{refl, arith}
use Rattle.dump.proofs.WrittenLaws.{grew_byte, grew_past}
use Rattle.dump.proofs.page.Page.byte.Goals as goal

pub returns-then-self : goal.returns-then-self
returns-then-self c = grew_past _ _ (omega arith)

pub returns : goal.returns
returns c = grew_byte _ (omega arith) refl refl refl
