use Rattle.std.proofs.Common.{◌≢◌, List, ℕ, ◌<◌}
use Rattle.theory.specs.Fn.{at}
use Rattle.lent.specs.Mem.{up}
use Rattle.ends.specs.Say.{Better}
use Rattle.ends.proofs.fill.Given as goal

pub record Filling (up : ℕ → ℕ) (dep₀ dep : List ℕ) (c x : ℕ) : Type 0 where
  pub better : Better up dep₀ dep c
  pub known : (n : ℕ) → 0 < n → n < x → at dep n ≢ 0

abbrev pub invariant-loop-x : goal.invariant-loop-x
invariant-loop-x l = Filling (up l.mem) l.initial.dep l.dep l.c l.x
