-- What the functions of the check give: r is how many pieces there are, or none where they refuse.
-- Assumes nothing.
use Rattle.std.specs.Prelude.{◌≡◌, ◌≢◌, List, ℕ, ◌+◌, ◌≤◌, length, Option, Some, None}
use Rattle.texts.specs.Texts.{Told, Untold}
use Rattle.texts.specs.Pieces.{Met, Unmet}

pub record Chained (f : ℕ → ℕ) (seen seen' : List ℕ) (u x e : ℕ) (r : Option ℕ) : Type 0 where
  pub long : length seen' ≡ length seen
  pub small : (k : ℕ) → r ≡ Some k → (k ≢ 0) × (k ≤ u)
  pub good : (k : ℕ) → r ≡ Some k → Met f seen seen' u x 0 e k
  pub bad : r ≡ None → Unmet f seen u x e

pub record Texted (m q seen seen' : List ℕ) (u n : ℕ) (r : Option ℕ) : Type 0 where
  pub long : length seen' ≡ length seen
  pub small : (k : ℕ) → r ≡ Some k → k ≤ u
  pub good : (k : ℕ) → r ≡ Some k → Told m q seen seen' u n (k + 1)
  pub bad : r ≡ None → Untold m q seen u n
