use Rattle.std.proofs.Common.{◌≡◌, sym, ◌∙◌, List, ℕ, ◌≤◌, ◌<◌, ◌+◌, arith}
use Rattle.std.proofs.Math.Decide.{ℕ_discrete, dec_lt}
use Rattle.theory.specs.Fn.{at}
use Rattle.theory.specs.Says.{f≢}
use Rattle.theory.specs.Depth.{Ends, Right, depth, depth_le, depth_zero, right_zero}
use Rattle.ends.specs.Say.{Climbed}
use Rattle.ends.proofs.fill.Goals as goal

-- what is read where the climb stopped is the depth there
tell : {up : ℕ → ℕ} {dep : List ℕ} {c x y k : ℕ} → Right up c dep → Climbed up dep c x y k → Ends up c → k ≤ c → at dep y ≡ depth up c y
tell {up} {dep} {c} {y = y} r g e h = by (ℕ_discrete y 0)
  where
    by : Dec (y ≡ 0) → at dep y ≡ depth up c y
    by (yes q) = rw q (right_zero r e ∙ sym (depth_zero up c))
    by (no q) = r.right e y g.used (g.known h q)

way : {up : ℕ → ℕ} {dep : List ℕ} {c x y k : ℕ} → Right up c dep → Climbed up dep c x y k → at dep y + k ≤ c → Ends up c
    → depth up c x ≡ k + at dep y
way r g h e = let t = tell r g e (omega arith) in omega (arith, g.way e)

-- too deep: going up does not end
deny : {up : ℕ → ℕ} {dep : List ℕ} {c x y k : ℕ} → Right up c dep → Climbed up dep c x y k → c < at dep y + k → ¬ Ends up c
deny {up} {dep} {c} {x} {y} {k} r g h e = by (dec_lt c k)
  where
    by : Dec (c < k) → ⊥
    by (yes q) = omega (arith, g.way e, depth_le up c x)
    by (no q) = let t = tell r g e (omega arith) in omega (arith, g.way e, depth_le up c x)

pub returns-then-d-k : goal.returns-then-d-k
returns-then-d-k c = let f = c.loop-x.invariant in
    record {
      long = f.better.long;
      right = f.better.right;
      known = λ e. f≢ e;
      bad = λ _. deny f.better.right c.climb-y.ensures (omega (arith, c.if-d-k.true));
    }

pub assign-requires-clause-depth_of_x : goal.assign-requires-clause-depth_of_x
assign-requires-clause-depth_of_x c = let f = c.loop-x.invariant in
    rw c.from-d.ensures (way f.better.right c.climb-y.ensures (omega arith))
