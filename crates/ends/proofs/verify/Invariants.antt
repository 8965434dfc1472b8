use Rattle.lent.specs.Mem.{up}
use Rattle.std.proofs.Common.{◌≢◌, ℕ, ◌<◌}
use Rattle.theory.specs.Fn.{at}
use Rattle.ends.proofs.verify.Given as goal

abbrev pub invariant-loop-n : goal.invariant-loop-n
invariant-loop-n l = (i : ℕ) → 0 < i → i < l.n → up l.mem i ≢ 0 → at l.dep (up l.mem i) < at l.dep i
