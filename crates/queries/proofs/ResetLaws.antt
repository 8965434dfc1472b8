-- One turn of the walk up the stack.
-- Assumes nothing.
use Rattle.std.proofs.Common.{ℕ, zero, suc, ◌-◌, ◌<◌, ◌≤◌, ◌≡◌, List, arith, sub-one, eqb, get_or, Option}
use Rattle.places.specs.Places.{places_of}
use Rattle.places.proofs.Laws.{at_of}
use Rattle.state.specs.declared.Context.{Context}
use Rattle.queries.specs.declared.reset.Reset.{Reset}
use Rattle.queries.specs.Element.{Expanded, standing}
use Rattle.queries.specs.Reset.{mode_at, onward, walked}

module _ (m h : List ℕ) (d : ℕ) (x : Option Context) (head : ℕ) where
  -- s is what the k-th entry from the first decides, and e what it stands for
  pub turn : (k : ℕ) {e : Expanded} {s : Option Reset} → 0 < k → k ≤ d → e ≡ standing m x (get_or h (k - 1) 0) (k - 1) → s ≡ mode_at head (eqb (k - 1) 0) e
      → walked m (places_of h d) x head k ≡ onward s (walked m (places_of h d) x head (k - 1))
  unfolding walked
  turn zero p le ee es = absurd (omega arith)
  turn (suc k) p le ee es = rw (es, ee, sub-one, at_of h d k (omega arith))
