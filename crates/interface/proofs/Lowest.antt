-- The lowest number that applies, for any table of refusals, is 0 or 2 to 8.
-- Assumes nothing.
use Rattle.std.proofs.Common.{refl, inl, inr, Bool, true, false, arith}
use Rattle.standard.specs.Refusals.{Refusals, refusals, applies, least, lowest}
use Rattle.kept.specs.Fair.{Answer}

pub lowest_answers : (r : Refusals) → Answer 8 (lowest r)
unfolding lowest least applies
lowest_answers r = by r.unknown r.nothing r.nodes r.stack r.entries r.pieces r.pairs
  where
    by : (a b c d e g h : Bool) → Answer 8 (lowest (refusals a b c d e g h))
    by true b c d e g h = record { one = inr (omega arith, omega arith) }
    by false true c d e g h = record { one = inr (omega arith, omega arith) }
    by false false true d e g h = record { one = inr (omega arith, omega arith) }
    by false false false true e g h = record { one = inr (omega arith, omega arith) }
    by false false false false true g h = record { one = inr (omega arith, omega arith) }
    by false false false false false true h = record { one = inr (omega arith, omega arith) }
    by false false false false false false true = record { one = inr (omega arith, omega arith) }
    by false false false false false false false = record { one = inl refl }
