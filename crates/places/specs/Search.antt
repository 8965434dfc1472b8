-- What a closure that tests an entry answers.
-- Assumes nothing.
use Rattle.std.specs.Prelude.{ℕ, ◌≡◌, Bool}

-- the closure's answers, of which `post` tells, are the test's
abbrev pub Computes : (ℕ → Bool → Type 0) → (ℕ → Bool) → Type 0
Computes post p = (x : ℕ) (r : Bool) → post x r → r ≡ p x
