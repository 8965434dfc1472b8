-- The promises of `run` and `call` allow one result only: answer, record and every lent slice.
-- Assumes nothing.
use Rattle.std.proofs.Common.{ℕ, ◌-◌, ◌≡◌, ap, sym, ◌∙◌, List}
use Rattle.state.specs.declared.State.{State}
use Rattle.state.specs.Full.{Result, result_of}
use Rattle.standard.specs.Run.{Ran, ran}
use Rattle.edge.proofs.Complete.{Same, checked_one, whole_one}
use Rattle.edge.specs.Public.{Checked, whole}

-- a run
pub run_one : (P : Type 0) (y z : Ran) {k d k' d' : ℕ} (st st' : State) (n l m p q n' l' m' p' q' : List ℕ) → Checked P (ran k d (whole st n l m p q)) y z → Checked P (ran k' d' (whole st' n' l' m' p' q')) y z
    → (k ≡ k') × (d ≡ d') × Same st st' n l m p q n' l' m' p' q'
run_one P y z st st' n l m p q n' l' m' p' q' w v =
    let e = checked_one w v in
    (ap (λ (r : Ran). r.answer) e, ap (λ (r : Ran). r.done) e, whole_one st st' n l m p q n' l' m' p' q' (ap (λ (r : Ran). r.after) e))

-- a single call, and the nodes that it took from the state of which z are used
pub call_one : (P : Type 0) (y n₀ : Result) (z : ℕ) {k k' t t' : ℕ} (st st' : State) (n l m p q n' l' m' p' q' : List ℕ)
    → Checked P (result_of k (whole st n l m p q)) y n₀ → Checked P (result_of k' (whole st' n' l' m' p' q')) y n₀
    → t ≡ st.counts.nodes - z → t' ≡ st'.counts.nodes - z → (k ≡ k') × (t ≡ t') × Same st st' n l m p q n' l' m' p' q'
call_one P y n₀ z st st' n l m p q n' l' m' p' q' w v et et' =
    let e = checked_one w v in
    let same = whole_one st st' n l m p q n' l' m' p' q' (ap (λ (r : Result). r.after) e) in
    (ap (λ (r : Result). r.answer) e, et ∙ ap (λ (s : State). s.counts.nodes - z) same.state ∙ sym et', same)
