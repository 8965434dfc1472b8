use Rattle.std.proofs.Common.{◌≡◌, ◌≢◌, List, ℕ, ◌≤◌, ◌<◌, ◌+◌}
use Rattle.lent.specs.Mem.{up}
use Rattle.theory.specs.Fn.{at}
use Rattle.theory.specs.Depth.{Ends, depth}
use Rattle.ends.specs.Say.{Better}
use Rattle.ends.proofs.assign.Given as goal

pub record Going (up : ℕ → ℕ) (dep₀ dep : List ℕ) (c x k d z e : ℕ) : Type 0 where
  pub used : z ≤ c
  pub better : Better up dep₀ dep c
  pub way : Ends up c → depth up c z ≡ e + d
  pub start : e ≡ k → z ≡ x
  pub known : e < k → at dep x ≢ 0

abbrev pub invariant-loop-left : goal.invariant-loop-left
invariant-loop-left l = Going (up l.mem) l.initial.dep l.dep l.c l.x l.k l.d l.z l.left
