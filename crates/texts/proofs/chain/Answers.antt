use Rattle.std.proofs.Common.{◌≡◌, ◌≢◌, List, ℕ, length, arith, Some, None}
use Rattle.texts.specs.Pieces.{Met, Unmet, met_few, met_more, deny_far, deny_seen, deny_last, deny_none}
use Rattle.texts.specs.Say.{Chained}
use Rattle.texts.proofs.chain.Goals.{then-y-u-via-then-y-u, then-y-u-via-else-y-u+then-seen-y-ne0, then-k-eq0-via-then-k-eq0, then-k-eq0-via-else-k-eq0+then-last-e}
use Rattle.texts.proofs.chain.Goals as goal

no : {f : ℕ → ℕ} {seen seen' : List ℕ} {u x e : ℕ} → length seen' ≡ length seen → Unmet f seen u x e → Chained f seen seen' u x e None
no l d = record { long = l; small = λ k h. absurd (cc); good = λ k h. absurd (cc); bad = λ _. d }

done : {f : ℕ → ℕ} {seen seen' : List ℕ} {u x y l e k : ℕ} → Met f seen seen' u x y l k → y ≡ 0 → l ≡ e → k ≢ 0
    → Chained f seen seen' u x e (Some k)
done {f} {seen} {seen'} {u} {x} {e = e} {k = k} g z h ne =
    record {
      long = g.marks.long;
      small = λ j q. let s : k ≡ j = cc in rw (← s) (ne, met_few g);
      good = λ j q. let s : k ≡ j = cc in rw (← s) (rw (z, h) at g);
      bad = λ q. absurd (cc);
    }

pub returns-then-y-u : goal.returns-then-y-u
returns-then-y-u c = let g = c.loop-y.invariant in
    elim c.then-y-u.branch [
      | then-y-u-via-then-y-u w ↦ no g.marks.long (deny_far g c.loop-y-test.true w.if-y-u.true)
      | then-y-u-via-else-y-u+then-seen-y-ne0 w ↦ no g.marks.long (deny_seen g c.loop-y-test.true w.if-seen-y-ne0.true)
    ]

pub overflow_add-k : goal.overflow_add-k
overflow_add-k c = let g = c.loop-y.invariant in
    omega (arith, met_few (met_more g c.loop-y-test.true c.if-y-u.false c.if-seen-y-ne0.false (omega (arith, g.marks.long))))

pub loop-y-smaller : goal.loop-y-smaller
loop-y-smaller c = omega (arith, met_few c.loop-y.invariant)

pub loop-y-preserved : goal.loop-y-preserved
loop-y-preserved c = let g = c.loop-y.invariant in
    rw c.piece-y.ensures.0 (met_more g c.loop-y-test.true c.if-y-u.false c.if-seen-y-ne0.false (omega (arith, g.marks.long)))

pub returns-then-k-eq0 : goal.returns-then-k-eq0
returns-then-k-eq0 c = let g = c.loop-y.invariant in
    elim c.then-k-eq0.branch [
      | then-k-eq0-via-then-k-eq0 w ↦ no g.marks.long (deny_none g c.loop-y-test.false w.if-k-eq0.true)
      | then-k-eq0-via-else-k-eq0+then-last-e w ↦ no g.marks.long (deny_last g c.loop-y-test.false w.if-last-e.true)
    ]

pub returns : goal.returns
returns c = done c.loop-y.invariant c.loop-y-test.false c.if-last-e.false c.if-k-eq0.false
