-- An adoption, call 8 or 9 made singly, on any record and any lent memory: it takes at most 32 nodes, and the number that it reports is
-- nodes used after it less before.
-- Assumes nothing.
use Rattle.std.proofs.Common.{ℕ, ◌+◌, ◌≤◌, ◌≡◌, ◌⊎◌, inl, inr, Bool, true, false, cond, List, arith, Ok}
use Rattle.records.specs.declared.Record.{Record}
use Rattle.records.specs.Record.{item_at}
use Rattle.records.specs.Refusal.{answer_number}
use Rattle.state.specs.declared.State.{State}
use Rattle.state.specs.Fields.{core_of}
use Rattle.state.specs.Full.{Full, Result, result_of, refused}
use Rattle.standard.specs.Adoption.{adoption, misnested}
use Rattle.standard.specs.Step.{step, low_step, middle_step}
use Rattle.standard.specs.Run.{single, on_single}
use Rattle.kept.specs.Demands.{adoption_bound, misnested_bound}
use Rattle.edge.specs.Public.{whole}
use Rattle.interface.specs.Public.{call, Lent, Outcome, state_in, Promise}

-- g has at least the nodes of f, and 32 more at most
abbrev Within : Full → Full → Type 0
Within f g = (f.nodes.used ≤ g.nodes.used) × (g.nodes.used ≤ f.nodes.used + 32)

adopts : (s : List ℕ) (r : Record) (f : Full) → r.call ≡ 8 → step s r f ≡ adoption f r.a
unfolding step low_step middle_step
adopts s r f e = rw e

handles : (s : List ℕ) (r : Record) (f : Full) → r.call ≡ 9 → step s r f ≡ misnested f
unfolding step low_step middle_step
handles s r f e = rw e

step_within : (s : List ℕ) (r : Record) (f : Full) → (r.call ≡ 8) ⊎ (r.call ≡ 9) → Within f (step s r f).after
step_within s r f (inl e) = rw (adopts s r f e) (adoption_bound f r.a)
step_within s r f (inr e) = rw (handles s r f e) (misnested_bound f)

single_within : (s : List ℕ) (f : Full) {r : Record} {next : ℕ} → item_at s 0 ≡ Ok (r, next) → (r.call ≡ 8) ⊎ (r.call ≡ 9) → Within f (single s f).after
unfolding single on_single
single_within s f {r} e h = rw e (step_within s r f h)

either_within : (s : List ℕ) (f : Full) (r : Result) (ok : Bool) → r ≡ cond ok (single s f) (refused 1 f) → Within f (single s f).after → Within f r.after
either_within s f r true e h = rw e h
either_within s f r false e h = rw e (omega arith, omega arith)

pub adoption_reported : (st : State) (m : Lent) (o : Outcome (call st)) → Promise (call st) m o → {r : Record} {next : ℕ} → item_at m.input 0 ≡ Ok (r, next)
    → (r.call ≡ 8) ⊎ (r.call ≡ 9) → (o.gives.state.counts.nodes ≡ st.counts.nodes + o.gives.taken) × (o.gives.taken ≤ 32)
unfolding whole core_of
adoption_reported st m o w e h =
    let t =
    either_within m.input (state_in st m) (result_of (answer_number o.gives.answer) (state_in o.gives.state o.lent)) w.0.ok w.0.is
    (single_within m.input (state_in st m) e h) in
    let low : st.counts.nodes ≤ o.gives.state.counts.nodes = t.0 in
    let high : o.gives.state.counts.nodes ≤ st.counts.nodes + 32 = t.1 in
    (omega (arith, w.1, low), omega (arith, w.1, low, high))
