use Rattle.std.proofs.Common.{ℕ, ◌≤◌, arith, replicate}
use Rattle.std.proofs.Math.ListN.{length-replicate}
use Rattle.lent.specs.Mem.{up}
use Rattle.theory.specs.Depth.{InRange, right_none}
use Rattle.ends.specs.Say.{Given}
use Rattle.ends.proofs.ends.Goals as goal

-- at first nothing is known
given_none : (up : ℕ → ℕ) (c k : ℕ) → c ≤ 4096 → 4097 ≤ k → InRange up c → Given up (replicate k 0) c
given_none up c k few big r = record { few = few; deps = omega (arith, length-replicate {A = ℕ} k 0); range = r; right = right_none up c k }

pub fill-requires : goal.fill-requires
fill-requires c = given_none (up c.args.mem.now) c.args.c 4097 c.requires.c_bound (omega arith) c.requires.in_range
