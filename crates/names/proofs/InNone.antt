-- The members of every set are names of the table: so 0, a name of the host's and a number that is no name are in none.
-- Assumes nothing.
use Rattle.std.proofs.Common.{◌≡◌, false, ℕ, ◌≤◌, arith}
use Rattle.names.specs.Table.{limit}
use Rattle.names.specs.Numbers.{none, host, in_table}
use Rattle.names.specs.Sets.{Names, names_in, is_in, OneOf}
use Rattle.names.proofs.Known.{none_outside, past_outside}
use Rattle.names.proofs.Members.{every_in, no_member}
use Rattle.names.proofs.SetWords.{listed}

-- what is no name of the table is in no set
pub outside : {s : Names} → OneOf s → (ns n : ℕ) → in_table n ≡ false → is_in s ns n ≡ false
outside {s} t ns n e = no_member in_table (names_in s ns) (every_in in_table s (listed t) ns) n e

pub none_in_none : {s : Names} → OneOf s → (ns : ℕ) → is_in s ns none ≡ false
none_in_none t ns = outside t ns none none_outside

pub past_in_none : {s : Names} → OneOf s → (ns n : ℕ) → limit ≤ n → is_in s ns n ≡ false
past_in_none t ns n h = outside t ns n (past_outside n h)

pub host_in_none : {s : Names} → OneOf s → (ns n : ℕ) → host ≤ n → is_in s ns n ≡ false
host_in_none t ns n h = past_in_none t ns n (omega arith)
