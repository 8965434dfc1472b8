use Rattle.std.proofs.Common.{◌≡◌, List, ℕ, ◌≤◌, ◌<◌, length}
use Rattle.lent.specs.Mem.{up}
use Rattle.theory.specs.Fn.{at}
use Rattle.theory.specs.Nearest.{Memo}
use Rattle.order.proofs.ordered.Given as goal

pub record Going (f : ℕ → ℕ) (l near₀ near : List ℕ) (c i : ℕ) : Type 0 where
  pub long : length near ≡ length near₀
  pub memo : (nr : ℕ → ℕ) → Memo f c nr near₀ → Memo f c nr near
  pub low : (nr : ℕ → ℕ) → Memo f c nr near₀ → (j : ℕ) → j < i → nr (f (at l j)) ≤ j

abbrev pub invariant-loop-i : goal.invariant-loop-i
invariant-loop-i l = Going (up l.mem) l.entries l.initial.near l.near l.c l.i
