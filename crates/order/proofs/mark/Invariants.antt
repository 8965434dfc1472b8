use Rattle.std.proofs.Common.{◌≡◌, List, ℕ, suc, ◌≤◌, length}
use Rattle.lent.specs.Mem.{up}
use Rattle.theory.specs.Depth.{depth}
use Rattle.theory.specs.Nearest.{Memo}
use Rattle.order.proofs.mark.Given as goal

pub record Going (f : ℕ → ℕ) (near₀ near : List ℕ) (c x v z : ℕ) : Type 0 where
  pub used : z ≤ c
  pub long : length near ≡ length near₀
  pub kept : (nr : ℕ → ℕ) → Memo f c nr near₀ → v ≡ suc (nr x) → Memo f c nr near × (v ≡ suc (nr z))

abbrev pub invariant-loop-z : goal.invariant-loop-z
invariant-loop-z l = Going (up l.mem) l.initial.near l.near l.c l.x l.v l.z

abbrev pub decreases-loop-z : goal.decreases-loop-z
decreases-loop-z l = depth (up l.mem) l.c l.z
