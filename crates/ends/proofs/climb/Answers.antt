use Rattle.std.proofs.Common.{◌≡◌, ◌≢◌, ℕ, List, ◌+◌, arith}
use Rattle.theory.specs.Depth.{InRange, deeper}
use Rattle.ends.specs.Say.{Climbed}
use Rattle.ends.proofs.climb.Invariants.{Went}
use Rattle.ends.proofs.climb.Goals.{else-loop-k-test, then-loop-k-test+else-y-eq0+else-dep-y-ne0+else-k-c}
use Rattle.ends.proofs.climb.Goals as goal

next : {up : ℕ → ℕ} {c x y k y' k' : ℕ} → Went up c x y k → InRange up c → y ≢ 0 → y' ≡ up y → k' ≡ k + 1 → Went up c x y' k'
next {y = y} g r ne e k =
    rw e (record {
      used = r.le y (omega arith) g.used;
      way = λ q. omega (arith, g.way q, deeper r q y (omega arith) g.used);
      start = λ h. absurd (omega arith);
    })

-- more steps than there are nodes
over : {up : ℕ → ℕ} (dep : List ℕ) {c x y : ℕ} → Went up c x y (c + 1) → Climbed up dep c x y (c + 1)
over dep g = record { used = g.used; steps = omega arith; way = g.way; known = λ h. absurd (omega arith); start = g.start }

pub loop-k-preserved : goal.loop-k-preserved
loop-k-preserved c = next c.loop-k.invariant c.requires.given.range c.if-y-eq0.false c.up-y.ensures.0 (omega arith)

pub returns : goal.returns
returns c = elim c.loop-k-test.branch [
  | else-loop-k-test w ↦ absurd (omega arith)
  | then-loop-k-test+else-y-eq0+else-dep-y-ne0+else-k-c w ↦
      rw w.y-is (over _ (next c.loop-k.invariant c.requires.given.range w.if-y-eq0.false w.up-y.ensures.0 (omega arith)))
]
