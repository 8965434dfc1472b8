-- What the functions of the check are given and give. `near` is the memo, 0 where nothing is known, and `nr` any function
-- that it may be a memo of.
-- Assumes nothing.
use Rattle.std.specs.Prelude.{◌≡◌, Bool, true, false, List, ℕ, suc, ◌≤◌, ◌<◌, length}
use Rattle.theory.specs.Fn.{at}
use Rattle.theory.specs.Depth.{InRange, Ends}
use Rattle.theory.specs.Nearest.{Memo, Placed, Apart}

pub record Given (up : ℕ → ℕ) (near : List ℕ) (c : ℕ) : Type 0 where
  pub few : c ≤ 4096
  pub long : c < length near
  pub range : InRange up c
  pub ends : Ends up c

pub record Found (up : ℕ → ℕ) (near : List ℕ) (c x r : ℕ) : Type 0 where
  pub fits : r < 65536
  pub is : (nr : ℕ → ℕ) → Memo up c nr near → r ≡ suc (nr x)

pub record Marked (up : ℕ → ℕ) (near near' : List ℕ) (c x v : ℕ) : Type 0 where
  pub long : length near' ≡ length near
  pub kept : (nr : ℕ → ℕ) → Memo up c nr near → v ≡ suc (nr x) → Memo up c nr near'

pub record Put (l near near' : List ℕ) (d c : ℕ) (r : Bool) : Type 0 where
  pub long : length near' ≡ length near
  pub good : r ≡ true → Placed c l d near'
  pub bad : r ≡ false → ¬ Apart c l d

pub record Ordered (up : ℕ → ℕ) (l near : List ℕ) (d c : ℕ) (r : Bool) : Type 0 where
  pub good : r ≡ true → (nr : ℕ → ℕ) → Memo up c nr near → (i : ℕ) → i < d → nr (up (at l i)) ≤ i
  pub bad : r ≡ false → (nr : ℕ → ℕ) → Memo up c nr near → ¬ ((i : ℕ) → i < d → nr (up (at l i)) ≤ i)
