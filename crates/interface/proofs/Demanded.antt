-- Every public call meets the demands, on any record and any lent memory: they follow from what its contract promises.
-- Assumes nothing.
use Rattle.std.proofs.Common.{ℕ, ◌≤◌, min, ◌≡◌, refl, ap, sym, ◌∙◌, ◌≢◌, ◌⊎◌, inl, inr, Bool, true, false, cond, List, arith, ltb, length, Option}
use Rattle.std.proofs.Math.Decide.{ℕ_discrete}
use Rattle.theory.specs.Says.{Says}
use Rattle.lent.specs.Room.{free_nodes}
use Rattle.records.specs.Refusal.{answer_number, value_or}
use Rattle.state.specs.declared.Context.{Context}
use Rattle.state.specs.declared.State.{State}
use Rattle.state.specs.Full.{Full}
use Rattle.sound.specs.State.{SoundFull}
use Rattle.standard.specs.Begin.{bad_context, first_modes, begin_answer, begin_nodes, begin_modes, begin_state, Begun, begun, begin_of}
use Rattle.standard.specs.Refusals.{applies, least, lowest, refusals}
use Rattle.standard.specs.Run.{Ran, ran, run_of}
use Rattle.kept.specs.Exactly.{lowest_applies, lowest_least}
use Rattle.kept.specs.Never.{begin_answers, begin_refused}
use Rattle.kept.specs.Begin.{begin_sound}
use Rattle.kept.specs.Demands.{runs_never_stick}
use Rattle.edge.specs.Public.{whole, Checked}
use Rattle.edge.proofs.Complete.{whole_one}
use Rattle.interface.specs.Questions.{asked_by}
use Rattle.interface.specs.Calls.{Effect, effect}
use Rattle.interface.specs.Edge.{by_record, by_question}
use Rattle.interface.specs.Public.{Public, check, begin, run, call, ask, start, next, line, Lent, Outcome, state_in, BeginRest, Promise}
use Rattle.interface.specs.Demands.{refusals_of_begin, BeginAtEdge, RunAtEdge, CallAtEdge, Demands}
use Rattle.interface.proofs.Settled.{call_settled}
use Rattle.interface.proofs.Complete.{all_same, begin_same}

-- ---- begin

-- its answer is the lowest number that applies
pub begin_exact : (n m : List ℕ) (x : Option Context) → begin_answer n m x ≡ lowest (refusals_of_begin n m x)
unfolding begin_answer refusals_of_begin lowest least applies
begin_exact n m x = by (bad_context x) (ltb (free_nodes n 0) 2) (ltb (min (length m) 64) (first_modes x))
  where
    by : (a b c : Bool) → cond a 2 (cond b 4 (cond c 6 0)) ≡ lowest (refusals a false b false c false false)
    by true b c = refl
    by false true c = refl
    by false false true = refl
    by false false false = refl

begin_done : (st : State) (n m : List ℕ) (x : Option Context) → begin_answer n m x ≡ 0 → begin_of st n m x ≡ begun 0 (begin_state x) (begin_nodes n) (begin_modes m x)
unfolding begin_of
begin_done st n m x e = rw e

begun_sound : (n l m p q : List ℕ) (x : Option Context) → begin_answer n m x ≡ 0 → SoundFull (whole (begin_state x) (begin_nodes n) l (begin_modes m x) p q)
unfolding whole begin_state
begun_sound n l m p q x e = begin_sound n l m p q x e

module _ (st : State) (x : Option Context) (m : Lent) (o : Outcome (begin st x)) (w : Promise (begin st x) m o) where
  answer_is : answer_number o.gives ≡ begin_answer m.nodes m.modes x
  answer_is = by (ℕ_discrete (begin_answer m.nodes m.modes x) 0)
    where
      by : Dec (begin_answer m.nodes m.modes x ≡ 0) → answer_number o.gives ≡ begin_answer m.nodes m.modes x
      by (yes e) = ap (λ (b : Begun). b.answer) (w.0 ∙ begin_done st m.nodes m.modes x e) ∙ sym e
      by (no d) = ap (λ (b : Begun). b.answer) (w.0 ∙ begin_refused st m.nodes m.modes x d)

  begin_sound_after : answer_number o.gives ≡ 0 → SoundFull (state_in (value_or o.gives st) o.lent)
  begin_sound_after e =
      let z : begin_answer m.nodes m.modes x ≡ 0 = sym answer_is ∙ e in
      let g = w.0 ∙ begin_done st m.nodes m.modes x z in
      let a : value_or o.gives st ≡ begin_state x = ap (λ (b : Begun). b.state) g in
      let b : o.lent.nodes ≡ begin_nodes m.nodes = ap (λ (b : Begun). b.nodes) g in
      let c : o.lent.modes ≡ begin_modes m.modes x = ap (λ (b : Begun). b.modes) g in
      rw (a, b, c, w.1.list, w.1.pieces, w.1.pairs) (begun_sound m.nodes m.list m.modes m.pieces m.pairs x z)

  begin_kept : answer_number o.gives ≢ 0 → (value_or o.gives st ≡ st) × (o.lent ≡ m)
  begin_kept d =
      let g = w.0 ∙ begin_refused st m.nodes m.modes x (λ z. d (answer_is ∙ z)) in
      let still : BeginRest m m = record { list = refl; pieces = refl; pairs = refl; rest = record { input = refl; out = refl } } in
      (ap (λ (b : Begun). b.state) g, begin_same m o.lent m (ap (λ (b : Begun). b.nodes) g) (ap (λ (b : Begun). b.modes) g) w.1 still)

  begin_demanded : BeginAtEdge st x m o
  begin_demanded =
      let e : answer_number o.gives ≡ lowest (refusals_of_begin m.nodes m.modes x) = answer_is ∙ begin_exact m.nodes m.modes x in
      record {
        answers = rw answer_is (begin_answers m.nodes m.modes x);
        named = λ d. rw e (lowest_applies (refusals_of_begin m.nodes m.modes x) (rw e at d));
        lowest = λ k a b h. rw e (lowest_least (refusals_of_begin m.nodes m.modes x) k a b h);
        is = w.0;
        sound = begin_sound_after;
        kept = begin_kept;
      }

-- ---- runs

run_demanded : (s : List ℕ) (f : Full) (r : Ran) → Checked (SoundFull f) r (run_of s f) (ran 1 0 f) → RunAtEdge s f r
run_demanded s f r w = by w.ok w.says w.is
  where
    not_one : (k : ℕ) → (k ≡ 0) ⊎ ((2 ≤ k) × (k ≤ 9)) → k ≢ 1
    not_one k (inl h) e = omega arith
    not_one k (inr h) e = omega arith

    by : (b : Bool) → Says (SoundFull f) b → r ≡ cond b (run_of s f) (ran 1 0 f) → RunAtEdge s f r
    by true t e =
        let ok = t.good refl in
        let g = runs_never_stick s f ok in
        record {
          unsound = λ n. absurd (n ok);
          one = λ h. absurd (not_one (run_of s f).answer g.answers.one (sym (ap (λ (x : Ran). x.answer) e) ∙ h));
          settled = λ p. (e, g);
        }
    by false t e = record { unsound = λ p. e; one = λ h. t.bad refl; settled = λ p. absurd (t.bad refl p) }

-- ---- a record alone

call_demanded : (st : State) (m : Lent) (o : Outcome (call st)) → Promise (call st) m o → CallAtEdge st m o
call_demanded st m o w =
    let u = call_settled (by_record m.input) (state_in st m) (effect (answer_number o.gives.answer) 0 (state_in o.gives.state o.lent)) (w.0, refl) in
    record { edge = u; kept = λ d. same (ap (λ (x : Effect). x.after) (u.kept d)) }
  where
    same : state_in o.gives.state o.lent ≡ state_in st m → (o.gives.state ≡ st) × (o.lent ≡ m)
    same e =
        let t =
        whole_one o.gives.state st o.lent.nodes o.lent.list o.lent.modes o.lent.pieces o.lent.pairs
        m.nodes m.list m.modes m.pieces m.pairs e in
        (t.state, all_same m o.lent m t w.2 (record { input = refl; out = refl }))

-- ---- all

pub demanded : (c : Public) (m : Lent) (o : Outcome c) → Promise c m o → Demands c m o
demanded (check st) m o w = w
demanded (begin st x) m o w = begin_demanded st x m o w
demanded (run st) m o w =
    run_demanded m.input (state_in st m) (ran (answer_number o.gives.answer) o.gives.done (state_in o.gives.state o.lent)) w.0
demanded (call st) m o w = call_demanded st m o w
demanded (ask q st) m o w =
    (call_settled (by_question q) (state_in st m) (effect (asked_by q o.gives).answer (asked_by q o.gives).value (state_in st o.lent)) (w.0, ap (state_in st) w.2), w.2)
demanded start m o w = w.1
demanded (next c) m o w = w.1
demanded (line c) m o w = w.2
