use Rattle.std.proofs.Common.{◌≡◌, ℕ, ◌≤◌, ◌+◌}
use Rattle.lent.specs.Mem.{up}
use Rattle.theory.specs.Depth.{Ends, depth}
use Rattle.ends.proofs.climb.Given as goal

-- k steps up from x is y
pub record Went (up : ℕ → ℕ) (c x y k : ℕ) : Type 0 where
  pub used : y ≤ c
  pub way : Ends up c → depth up c x ≡ k + depth up c y
  pub start : k ≡ 0 → y ≡ x

abbrev pub invariant-loop-k : goal.invariant-loop-k
invariant-loop-k l = Went (up l.mem) l.c l.x l.y l.k
