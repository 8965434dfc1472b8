use Rattle.ends.proofs.assign.Invariants.{Going}
use Rattle.std.proofs.Common.{◌≡◌, ◌∙◌, ◌≢◌, List, ℕ, ◌≤◌, ◌<◌, ◌+◌, arith, length, set, length-set}
use Rattle.std.proofs.Math.Decide.{ℕ_discrete}
use Rattle.theory.specs.Fn.{at}
use Rattle.theory.specs.Depth.{InRange, deeper, right_set, known_set, known_new}
use Rattle.ends.proofs.assign.Goals as goal

-- e nodes were left at z, and now i are above it; v is the depth of z
step : {up : ℕ → ℕ} {dep₀ dep : List ℕ} {c x k d z e i v : ℕ} → Going up dep₀ dep c x k d z e → e ≡ i + 1 → 0 < z → e ≤ k → d + k ≤ c
    → c < length dep₀ → InRange up c → v ≡ d + e
    → Going up dep₀ (set dep z v) c x k d (up z) i
step {up} {dep₀} {dep} {c} {x} {k} {d} {z} {e} {i} {v} g one zp left fit long r is =
    record {
      used = r.le z zp g.used;
      better =
          record {
            long = length-set dep z v ∙ g.better.long;
            right = right_set z v g.better.right h (omega arith) (λ q. let w = g.way q in omega arith);
            kept = λ n ne. known_set dep z v n h (omega arith) (g.better.kept n ne);
          };
      way = λ q. omega (arith, g.way q, deeper r q z zp g.used);
      start = λ q. absurd (omega arith);
      known = λ q. known (ℕ_discrete e k);
    }
  where
    h : z < length dep
    h = omega (arith, g.better.long, g.used)

    known : Dec (e ≡ k) → at (set dep z v) x ≢ 0
    known (yes q) = rw (← (g.start q)) (known_new dep z v h (omega arith))
    known (no q) = known_set dep z v x h (omega arith) (g.known (omega arith))

pub loop-left-preserved : goal.loop-left-preserved
loop-left-preserved c = let ne = c.if-z-eq0.false in
    rw c.up-z.ensures.0
    (step c.loop-left.invariant (omega arith) (omega arith) (omega arith) c.requires.k_bound c.requires.given.deps c.requires.given.range (omega arith))
