-- Laws of bytes written into a list from a place on, for any bytes.
-- Assumes nothing.
use Rattle.std.proofs.Common.{◌≡◌, refl, Bool, true, false, cond, List, [], ◌++◌, ℕ, ◌+◌, ◌≤◌, add-zero, arith, leb, length, take, drop, length-append, length-drop, take-append-drop, length-take-le, le-leb, leb-true}
use Rattle.names.specs.Table.{limit}
use Rattle.names.specs.Put.{fits, put_at, after_put, put_name, after_name}
use Rattle.names.proofs.Rows.{past}

-- where they fit, the place after them
pub after_put_fits : (out b : List ℕ) (at : ℕ) → at + length b ≤ length out → after_put out b at ≡ at + length b
unfolding after_put
after_put_fits out b at h = rw (le-leb (at + length b) (length out) h)

-- no bytes change nothing
put_at_nothing : (out : List ℕ) (at : ℕ) → put_at out [] at ≡ out
unfolding put_at
put_at_nothing out at = go (leb (at + 0) (length out)) refl
  where
    go : (t : Bool) → leb (at + 0) (length out) ≡ t → cond t (take at out ++ drop (at + 0) out) out ≡ out
    go true e = rw add-zero (take-append-drop at out)
    go false e = refl

after_put_nothing : (out : List ℕ) (at : ℕ) → after_put out [] at ≡ at
unfolding after_put
after_put_nothing out at = go (leb (at + 0) (length out))
  where
    go : (t : Bool) → cond t (at + 0) at ≡ at
    go true = add-zero at
    go false = refl

-- what is no name of the table is not written
pub put_name_past : (out : List ℕ) (n at : ℕ) → limit ≤ n → put_name out n at ≡ out
put_name_past out n at h = rw (past n h) (put_at_nothing out at)

pub after_name_past : (out : List ℕ) (n at : ℕ) → limit ≤ n → after_name out n at ≡ at
after_name_past out n at h = rw (past n h) (after_put_nothing out at)

-- the length is kept
pub put_at_length : (out b : List ℕ) (at : ℕ) → length (put_at out b at) ≡ length out
unfolding put_at
put_at_length out b at = go (fits out b at) refl
  where
    go : (t : Bool) → fits out b at ≡ t → length (cond t (take at out ++ (b ++ drop (at + length b) out)) out) ≡ length out
    go true e =
        let h : at + length b ≤ length out = leb-true (at + length b) (length out) e in
        simp (length-append, length-drop) (omega (arith, length-take-le at out (omega arith)))
    go false e = refl
