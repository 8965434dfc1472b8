use Rattle.std.proofs.Common.{◌∙◌, ap, arith, decimal}
use Rattle.dump.proofs.WrittenLaws.{grew_as}
use Rattle.dump.proofs.DigitsLaws.{digits_decimal}
use Rattle.dump.proofs.page.Page.number.Goals as goal

pub returns : goal.returns
returns c = grew_as (ap decimal c.from.ensures ∙ digits_decimal c.args.n (omega arith)) c.decimal.ensures
