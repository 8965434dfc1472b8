-- The words of each set tell what is in it, at every namespace and number.
-- Assumes nothing.
use Rattle.std.proofs.Common.{◌≡◌, ℕ, arith}
use Rattle.names.specs.Sets.{Names, is_in, OneOf}
use Rattle.names.specs.Words.{in_words}
use Rattle.names.proofs.Agree.{told}
use Rattle.names.proofs.InNone.{past_in_none}
use Rattle.names.proofs.SetWords.{words_of, agrees}

pub right : {s : Names} (t : OneOf s) (ns n : ℕ) → in_words (words_of t) ns n ≡ is_in s ns n
right {s} t = told (words_of t) s (agrees t) (λ ns n h. past_in_none t ns n (omega arith))
