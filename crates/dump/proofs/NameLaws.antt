-- Each name of the table fits into 32 bytes, so that what `names::put_name` leaves in an array of 32 begins with the name.
-- Assumes nothing.
use Rattle.std.proofs.Common.{◌≡◌, sym, ap, Bool, true, ◌&&◌, List, [], ◌∷◌, ℕ, zero, suc, ◌+◌, ◌≤◌, zero-add, arith, T, leb, leb→le, length, get_or, take, drop, take_at, length-take-le, le-leb}
use Rattle.names.specs.Text.{text}
use Rattle.names.specs.Table.{names}
use Rattle.names.specs.Numbers.{rows, bytes_of}
use Rattle.names.specs.Put.{put_at, after_put, put_name, after_name}
use Rattle.names.proofs.Placed.{after_put_fits, put_at_length}

abbrev short : List (List ℕ) → Bool
short [] = true
short (x ∷ xs) = leb (length x) 32 && short xs

both : (a b : Bool) → T (a && b) → (T a) × (T b)
both mathlib.Core.Bool.false b h = elim h [ ]
both true b h = (tt, h)

short_at : (xs : List (List ℕ)) (n : ℕ) → T (short xs) → length (get_or xs n []) ≤ 32
short_at [] n h = omega arith
short_at (x ∷ xs) zero h = leb→le (length x) 32 (both (leb (length x) 32) (short xs) h).0
short_at (x ∷ xs) (suc n) h = short_at xs n (both (leb (length x) 32) (short xs) h).1

pub name_short : (n : ℕ) → length (bytes_of n) ≤ 32
unfolding names text
name_short n = short_at rows n tt

-- bytes that fit are the first ones of what they are written into
pub first_bytes : (o b : List ℕ) → length b ≤ length o → take (after_put o b 0) (put_at o b 0) ≡ b
unfolding put_at
first_bytes o b h =
    let l : 0 + length b ≤ length o = omega arith in
    rw (after_put_fits o b 0 l, le-leb (0 + length b) (length o) l) (take_at b (drop (0 + length b) o) (0 + length b) (sym (zero-add (length b))))

-- so it is in an array o of 32 bytes: r is the place after the name, and l what is left there
module _ (o : List ℕ) {l : List ℕ} (n : ℕ) {r : ℕ} (h : 32 ≤ length o) (a : r ≡ after_name o n 0) (b : l ≡ put_name o n 0) where
  fits : length (bytes_of n) ≤ length o
  fits = omega (arith, name_short n)

  pub name_within : r ≤ length l
  name_within = let f = fits in omega (arith, a, ap length b, put_at_length o (bytes_of n) 0, after_put_fits o (bytes_of n) 0 (omega arith))

  pub name_bytes : take r l ≡ bytes_of n
  name_bytes = rw (a, b) (first_bytes o (bytes_of n) fits)

  pub name_count : r ≡ length (take r l)
  name_count = sym (length-take-le r l name_within)
