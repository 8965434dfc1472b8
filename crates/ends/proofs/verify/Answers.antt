use Rattle.std.proofs.Common.{sym, ◌∙◌, ◌≢◌, List, ℕ, ◌≤◌, ◌<◌, arith}
use Rattle.lent.specs.Mem.{up}
use Rattle.theory.specs.Fn.{at}
use Rattle.theory.specs.Says.{says_yes, says_no, more}
use Rattle.theory.specs.Depth.{Ends, deeper, ranked}
use Rattle.ends.specs.Say.{Given, Known}
use Rattle.ends.proofs.verify.Goals.{else-p-ne0-via-then-p-ne0+else-dep-p, else-p-ne0-via-else-p-ne0}
use Rattle.ends.proofs.verify.Goals as goal

-- a node that stands no lower than its child: going up does not end
deny : {up : ℕ → ℕ} {dep : List ℕ} {c : ℕ} → Given up dep c → Known dep c → (n : ℕ) → 0 < n → n ≤ c → up n ≢ 0
    → at dep n ≤ at dep (up n) → ¬ Ends up c
deny {up} {dep} {c} g k n z l u h e =
    let pc = g.range.le n z l in
    let a = g.right.right e n l (k.known n z l) in
    let b = g.right.right e (up n) pc (k.known (up n) (omega arith) pc) in
    omega (arith, deeper g.range e n z l)

pub returns-then-dep-p : goal.returns-then-dep-p
returns-then-dep-p c = let n = c.loop-n.n in
    let d = c.args.dep.now in
    let q = c.up-p.ensures.0 in
    let h : at d n ≤ at d c.up-p.result = omega arith in
    says_no (deny c.requires.given c.requires.known n c.loop-n.auto.n c.loop-n-test.true (rw (← q) c.if-p-ne0.true) (rw q at h))

pub returns-else-p-ne0 : goal.returns-else-p-ne0
returns-else-p-ne0 c = let m = c.args.mem.now in
    let n = c.loop-n.n in
    let d = c.args.dep.now in
    let q = c.up-p.ensures.0 in
    let here : up m n ≢ 0 → at d (up m n) < at d n = elim c.else-p-ne0.branch [
      | else-p-ne0-via-then-p-ne0+else-dep-p w ↦ λ u. rw (← q) (omega arith)
      | else-p-ne0-via-else-p-ne0 w ↦ λ u. absurd (u (sym q ∙ w.if-p-ne0.false))
    ] in
    says_yes (ranked c.requires.given.range d (λ i z l. more c.loop-n.invariant here i z (omega arith)))
