use Rattle.std.proofs.Common.{◌≡◌, refl, ◌∙◌, List, ℕ, suc, ◌≤◌, ◌+◌, ◌-◌, arith, Some, None, nat_eq}
use Rattle.theory.specs.Says.{Says, says_no, says_eqb}
use Rattle.texts.specs.Texts.{Texts, Going, going_none, going_few, going_more, deny_node, done_all, deny_all}
use Rattle.texts.specs.Say.{Texted}
use Rattle.texts.proofs.every.Goals.{else-loop-n-test, then-loop-n-test+in-Some+else-n-c}
use Rattle.texts.proofs.every.Goals as goal

-- the nodes up to i are done, and now n
step : {m q seen seen' : List ℕ} {u i n t k : ℕ} → Going m q seen u i t → n ≡ suc i → Texted m q seen seen' u n (Some k)
    → Going m q seen' u n (t + k)
step {t = t} {k = k} g e a =
    let s : t + k ≡ t + (k + 1) - 1 = omega arith in
    rw (e, s) (going_more g (rw e at (a.good k refl)))

deny : {m q seen seen' : List ℕ} {c u i n t : ℕ} → Going m q seen u i t → n ≡ suc i → n ≤ c → Texted m q seen seen' u n None
    → ¬ Texts m q c u
deny g e l a = deny_node g (omega arith) (rw e at (a.bad refl))

done : {m q seen : List ℕ} {c u i t : ℕ} → Going m q seen u i t → i ≡ c → Says (Texts m q c u) (nat_eq t u)
done {u = u} {t = t} g e = let h = rw e at g in says_eqb t u (λ s. done_all h s) (λ s. deny_all h s)

pub loop-n-init : goal.loop-n-init
loop-n-init c = (omega arith, refl, going_none _ _ _ _ c.requires.unseen)

pub returns-in_default : goal.returns-in_default
returns-in_default c = says_no (deny c.loop-n.invariant.2 (omega arith) c.loop-n-test.true c.in_default.ensures)

pub overflow_add-t : goal.overflow_add-t
overflow_add-t c = omega (arith, going_few (step c.loop-n.invariant.2 (omega arith) c.in-Some.ensures))

pub loop-n-preserved : goal.loop-n-preserved
loop-n-preserved c = let e : c.loop-n.n + 1 - 1 ≡ c.loop-n.n = omega arith in (
  omega arith,
  c.text.ensures.long ∙ c.loop-n.invariant.1,
  rw e (step c.loop-n.invariant.2 (omega arith) c.in-Some.ensures),
)

pub returns : goal.returns
returns c = elim c.loop-n-test.branch [
  | else-loop-n-test w ↦ rw w.t-is (done c.loop-n.invariant.2 (omega arith))
  | then-loop-n-test+in-Some+else-n-c w ↦ rw w.t-is (done (step c.loop-n.invariant.2 (omega arith) w.in-Some.ensures) (omega arith))
]
