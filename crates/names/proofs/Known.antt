-- Which numbers are names: those of the table and the host's are, and 0 and those between the table and the host's are not.
-- Assumes nothing.
use Rattle.std.proofs.Common.{◌≡◌, refl, true, false, ℕ, ◌≤◌, ◌<◌, arith, ne_eqb, lt-ltb, le-ltb, le-leb}
use Rattle.std.proofs.lemmas.Bool.{lt-leb}
use Rattle.names.specs.Table.{limit}
use Rattle.names.specs.Numbers.{none, host, in_table, is_name}

-- names of the table
pub none_outside : in_table none ≡ false
unfolding in_table
none_outside = refl

module _ (n : ℕ) where
  pub table_inside : 0 < n → n < limit → in_table n ≡ true
  unfolding in_table
  table_inside h l = rw (ne_eqb n none (λ e. omega arith), lt-ltb n limit l)

  pub past_outside : limit ≤ n → in_table n ≡ false
  unfolding in_table
  past_outside h = rw (ne_eqb n none (λ e. omega arith), le-ltb n limit h)

  -- all names
  pub table_is_name : 0 < n → n < limit → is_name n ≡ true
  unfolding is_name
  table_is_name h l = rw (table_inside h l)

  pub host_is_name : host ≤ n → is_name n ≡ true
  unfolding is_name
  host_is_name h = rw (past_outside (omega arith), le-leb host n h)

  pub unknown_no_name : limit ≤ n → n < host → is_name n ≡ false
  unfolding is_name
  unknown_no_name h l = rw (past_outside h, lt-leb host n l)

pub none_no_name : is_name none ≡ false
unfolding is_name
none_no_name = rw none_outside
