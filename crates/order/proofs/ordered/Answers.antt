use Rattle.order.proofs.ordered.Invariants.{Going}
use Rattle.std.proofs.Common.{◌≡◌, ◌∙◌, List, ℕ, ◌≤◌, ◌<◌, ◌+◌, arith}
use Rattle.theory.specs.Fn.{at}
use Rattle.theory.specs.Says.{f≢, below}
use Rattle.theory.specs.Nearest.{Memo}
use Rattle.order.specs.Say.{Found, Marked}
use Rattle.order.proofs.ordered.Goals as goal

step : {f : ℕ → ℕ} {l near₀ near near' : List ℕ} {c i p v : ℕ} → Going f l near₀ near c i → p ≡ f (at l i)
    → Found f near c p v → v ≤ i + 1 → Marked f near near' c p v → Going f l near₀ near' c (i + 1)
step {f} {l} {i = i} g e a h b =
    record {
      long = b.long ∙ g.long;
      memo = λ nr m. b.kept nr (g.memo nr m) (a.is nr (g.memo nr m));
      low = λ nr m. below (g.low nr m) (rw (← e) (omega (arith, a.is nr (g.memo nr m))));
    }

deny : {f : ℕ → ℕ} {l near₀ near : List ℕ} {c d i p v : ℕ} → Going f l near₀ near c i → i < d → p ≡ f (at l i)
    → Found f near c p v → i + 1 < v → (nr : ℕ → ℕ) → Memo f c nr near₀ → ¬ ((i : ℕ) → i < d → nr (f (at l i)) ≤ i)
deny {i = i} g l e a h nr m s = let t = rw (← e) at (s i l) in omega (arith, a.is nr (g.memo nr m))

pub returns-then-from-i : goal.returns-then-from-i
returns-then-from-i c = let a = c.loop-i in
    record {
      good = f≢;
      bad = λ _. deny a.invariant (omega arith) (rw c.from.ensures at c.up-p.ensures.0) c.nearest-v.ensures (omega arith);
    }

pub loop-i-preserved : goal.loop-i-preserved
loop-i-preserved c = step c.loop-i.invariant (rw c.from.ensures at c.up-p.ensures.0) c.nearest-v.ensures (omega arith) c.mark.ensures
