use Rattle.std.proofs.Common.{◌≡◌, ℕ, Bool, length}
use Rattle.places.specs.Places.{down}
use Rattle.places.specs.Search.{Computes}
use Rattle.places.proofs.last_with.Given as goal

-- What has been passed decides nothing.
abbrev pub invariant-loop-k : goal.invariant-loop-k
invariant-loop-k g l = (p q : ℕ → Bool) → Computes (goal.H-post g l.hit) p → Computes (goal.S-post g l.stop) q → down p q l.s (length l.s) ≡ down p q l.s l.k
