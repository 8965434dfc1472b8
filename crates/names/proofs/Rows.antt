-- What antt computes of the whole table, once: how many names there are, and that they are in ascending order. And what follows at each name.
-- Assumes nothing.
use Rattle.std.proofs.Common.{◌≡◌, refl, ◌∙◌, true, [], ℕ, zero, suc, ◌+◌, ◌≤◌, ◌<◌, zero-add, le_of_suc-le-suc, not-suc-le-zero, add-one, arith, T, length, get_or, take, drop}
use Rattle.std.proofs.Math.ListN.{get_or-eq_default}
use Rattle.names.specs.Text.{text}
use Rattle.names.specs.Table.{names, limit, total}
use Rattle.names.specs.Numbers.{rows, bytes_of}
use Rattle.names.specs.Order.{is_before, ascending}
use Rattle.names.specs.Flat.{flat, start_of, sums}
use Rattle.names.proofs.Flat.{before_suc, before_fits, flat_part, sums_at, length_sums}
use Rattle.names.proofs.Ordered.{ascends}

pub names_length : suc (length names) ≡ limit
unfolding names
names_length = refl

pub flat_length : length (flat rows) ≡ total
unfolding names text
flat_length = refl

pub in_order_lem : T (ascending names)
unfolding names text
in_order_lem = tt

-- each name stands before each later one
pub in_order_at : (p q : ℕ) → 0 < p → p < q → q < limit → is_before (bytes_of p) (bytes_of q) ≡ true
in_order_at zero q z h l = absurd (not-suc-le-zero z)
in_order_at (suc p) zero z h l = absurd (not-suc-le-zero h)
in_order_at (suc p) (suc q) z h l = ascends names in_order_lem p q (le_of_suc-le-suc h) (omega (arith, names_length))

-- what is past the table has no bytes
pub past : (n : ℕ) → limit ≤ n → bytes_of n ≡ []
past n h = get_or-eq_default rows [] {n = n} (omega (arith, names_length))

-- where the names start in the flat bytes, and what lies there
pub start_next : (n : ℕ) → start_of (n + 1) ≡ start_of n + length (bytes_of n)
start_next n = rw add-one (before_suc rows n)

pub start_fits : (n : ℕ) → start_of n ≤ total
start_fits n = omega (arith, before_fits rows n, flat_length)

pub part_is : (n : ℕ) → take (length (bytes_of n)) (drop (start_of n) (flat rows)) ≡ bytes_of n
part_is n = flat_part rows n

-- the starts, as a list: how many, and what each is
pub starts_length : length (sums 0 rows) ≡ suc limit
starts_length = length_sums 0 rows ∙ omega (arith, names_length)

pub starts_at : (n : ℕ) → n ≤ limit → get_or (sums 0 rows) n 0 ≡ start_of n
starts_at n h = sums_at 0 rows n (omega (arith, names_length)) ∙ zero-add (start_of n)
