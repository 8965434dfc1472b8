-- What the functions of the check are given and give: `up` is the way up, `dep` the depths that are known, 0 where none is,
-- and c how many nodes are used.
-- Assumes nothing.
use Rattle.std.specs.Prelude.{◌≡◌, ◌≢◌, Bool, true, false, List, ℕ, ◌+◌, ◌≤◌, ◌<◌, length}
use Rattle.theory.specs.Fn.{at}
use Rattle.theory.specs.Depth.{InRange, Ends, Right, depth}

pub record Given (up : ℕ → ℕ) (dep : List ℕ) (c : ℕ) : Type 0 where
  pub few : c ≤ 4096
  pub deps : c < length dep
  pub range : InRange up c
  pub right : Right up c dep

-- k steps from x to y, which is 0 or known unless k is over c
pub record Climbed (up : ℕ → ℕ) (dep : List ℕ) (c x y k : ℕ) : Type 0 where
  pub used : y ≤ c
  pub steps : k ≤ c + 1
  pub way : Ends up c → depth up c x ≡ k + depth up c y
  pub known : k ≤ c → y ≢ 0 → at dep y ≢ 0
  pub start : k ≡ 0 → y ≡ x

-- what is known of `dep` afterwards: as long, right, nothing forgotten
pub record Better (up : ℕ → ℕ) (dep dep' : List ℕ) (c : ℕ) : Type 0 where
  pub long : length dep' ≡ length dep
  pub right : Right up c dep'
  pub kept : (n : ℕ) → at dep n ≢ 0 → at dep' n ≢ 0

pub record Assigned (up : ℕ → ℕ) (dep dep' : List ℕ) (c x k : ℕ) : Type 0 where
  pub better : Better up dep dep' c
  pub known : k ≢ 0 → x ≢ 0 → at dep' x ≢ 0

pub record Known (dep : List ℕ) (c : ℕ) : Type 0 where
  pub known : (n : ℕ) → 0 < n → n ≤ c → at dep n ≢ 0

pub record Filled (up : ℕ → ℕ) (dep dep' : List ℕ) (c : ℕ) (r : Bool) : Type 0 where
  pub long : length dep' ≡ length dep
  pub right : Right up c dep'
  pub known : r ≡ true → Known dep' c
  pub bad : r ≡ false → ¬ Ends up c
