-- Each public promise allows one result only: what the call gives back, the record in it, and every slice that a host can lend.
-- Assumes nothing.
use Rattle.std.proofs.Common.{ℕ, ◌≡◌, refl, sym, ◌∙◌, List, Result as OkOrErr}
use Rattle.records.specs.declared.refusal.Refusal.{Refusal}
use Rattle.state.specs.declared.State.{State}
use Rattle.state.specs.Full.{refused}
use Rattle.sound.specs.State.{SoundFull}
use Rattle.standard.specs.Begin.{begin_of}
use Rattle.standard.specs.Run.{ran, run_of, single}
use Rattle.calls.specs.declared.Ran.{Ran}
use Rattle.calls.specs.declared.Single.{Single}
use Rattle.edge.specs.Public.{Checked}
use Rattle.edge.proofs.Complete.{Same, says_one}
use Rattle.records.proofs.Refusals.{result_one}
use Rattle.begin.proofs.Complete.{begin_one}
use Rattle.calls.proofs.Complete.{run_one, call_one}
use Rattle.queries.specs.Told as told
use Rattle.queries.proofs.Complete.{reset_one, foreign_one, body_one, tokenizer_one}
use Rattle.interface.specs.Questions.{Question, reset, foreign, body, tokenizer, Answered, asked_by, Named, answer_of}
use Rattle.interface.specs.Public.{Public, check, begin, run, call, ask, start, next, line, Lent, Gives, Outcome, state_in, Rest, BeginRest, LineRest, Promise}

-- a record is its fields
lent_one : {n n' l l' m m' p p' q q' i i' o o' : List ℕ} → n ≡ n' → l ≡ l' → m ≡ m' → p ≡ p' → q ≡ q' → i ≡ i' → o ≡ o'
    → ◌≡◌ {A = Lent} (record { nodes = n; list = l; modes = m; pieces = p; pairs = q; input = i; out = o })
    (record { nodes = n'; list = l'; modes = m'; pieces = p'; pairs = q'; input = i'; out = o' })
lent_one e1 e2 e3 e4 e5 e6 e7 = cc

outcome_one : (c : Public) {g g' : Gives c} {l l' : Lent} → g ≡ g' → l ≡ l' → ◌≡◌ {A = Outcome c} (record { gives = g; lent = l }) (record { gives = g'; lent = l' })
outcome_one c e1 e2 = cc

ran_one : {k k' : OkOrErr Unit Refusal} {d d' : ℕ} {st st' : State} → k ≡ k' → d ≡ d' → st ≡ st'
    → ◌≡◌ {A = Ran} (record { answer = k; done = d; state = st }) (record { answer = k'; done = d'; state = st' })
ran_one e1 e2 e3 = cc

single_one : {k k' : OkOrErr Unit Refusal} {t t' : ℕ} {st st' : State} → k ≡ k' → t ≡ t' → st ≡ st'
    → ◌≡◌ {A = Single} (record { answer = k; taken = t; state = st }) (record { answer = k'; taken = t'; state = st' })
single_one e1 e2 e3 = cc

-- ---- the lent memory after two results

module _ (m a b : Lent) where
  pub all_same : {st st' : State} → Same st st' a.nodes a.list a.modes a.pieces a.pairs b.nodes b.list b.modes b.pieces b.pairs → Rest m a → Rest m b
      → a ≡ b
  all_same e v w = lent_one e.nodes e.list e.modes e.pieces e.pairs (v.input ∙ sym w.input) (v.out ∙ sym w.out)

  pub begin_same : a.nodes ≡ b.nodes → a.modes ≡ b.modes → BeginRest m a → BeginRest m b → a ≡ b
  begin_same n d v w =
      lent_one n (v.list ∙ sym w.list) d (v.pieces ∙ sym w.pieces) (v.pairs ∙ sym w.pairs) (v.rest.input ∙ sym w.rest.input)
      (v.rest.out ∙ sym w.rest.out)

  line_same : a.out ≡ b.out → LineRest m a → LineRest m b → a ≡ b
  line_same o v w =
      lent_one (v.nodes ∙ sym w.nodes) (v.list ∙ sym w.list) (v.modes ∙ sym w.modes) (v.pieces ∙ sym w.pieces) (v.pairs ∙ sym w.pairs)
      (v.input ∙ sym w.input) o

-- ---- the questions

asked_one : (st : State) (m : Lent) (q : Question) {a b : Answered q} → Checked (SoundFull (state_in st m)) (asked_by q a) (answer_of q (state_in st m)) (told.refused 1)
    → Checked (SoundFull (state_in st m)) (asked_by q b) (answer_of q (state_in st m)) (told.refused 1) → Named q a → Named q b → a ≡ b
unfolding answer_of
asked_one st m reset v w i j = reset_one st m.nodes m.list m.modes m.pieces m.pairs v w
asked_one st m (foreign kind name) v w i j = foreign_one st m.nodes m.list m.modes m.pieces m.pairs kind name v w
asked_one st m body v w i j = body_one st m.nodes m.list m.modes m.pieces m.pairs v i w j
asked_one st m (tokenizer scripting) v w i j = tokenizer_one st m.nodes m.list m.modes m.pieces m.pairs scripting v w

-- ---- all

pub one : (c : Public) (m : Lent) (a b : Outcome c) → Promise c m a → Promise c m b → a ≡ b
one (check st) m a b v w = outcome_one (check st) (says_one a.gives b.gives v.0 w.0) (v.1 ∙ sym w.1)
one (begin st x) m a b v w =
    let e = begin_one (begin_of st m.nodes m.modes x) v.0 w.0 in
    outcome_one (begin st x) (result_one st a.gives b.gives e.0 e.1) (begin_same m a.lent b.lent e.2 e.3 v.1 w.1)
one (run st) m a b v w =
    let e =
    run_one (SoundFull (state_in st m)) (run_of m.input (state_in st m)) (ran 1 0 (state_in st m)) a.gives.state b.gives.state
    a.lent.nodes a.lent.list a.lent.modes a.lent.pieces a.lent.pairs
    b.lent.nodes b.lent.list b.lent.modes b.lent.pieces b.lent.pairs v.0 w.0 in
    outcome_one (run st) (ran_one (result_one tt a.gives.answer b.gives.answer e.0 refl) e.1 e.2.state) (all_same m a.lent b.lent e.2 v.1 w.1)
one (call st) m a b v w =
    let e =
    call_one (SoundFull (state_in st m)) (single m.input (state_in st m)) (refused 1 (state_in st m)) st.counts.nodes a.gives.state b.gives.state
    a.lent.nodes a.lent.list a.lent.modes a.lent.pieces a.lent.pairs
    b.lent.nodes b.lent.list b.lent.modes b.lent.pieces b.lent.pairs v.0 w.0 v.1 w.1 in
    outcome_one (call st) (single_one (result_one tt a.gives.answer b.gives.answer e.0 refl) e.1 e.2.state) (all_same m a.lent b.lent e.2 v.2 w.2)
one (ask q st) m a b v w = outcome_one (ask q st) (asked_one st m q v.0 w.0 v.1 w.1) (v.2 ∙ sym w.2)
one start m a b v w = outcome_one start (v.0 ∙ sym w.0) (v.1 ∙ sym w.1)
one (next c) m a b v w = outcome_one (next c) (v.0 ∙ sym w.0) (v.1 ∙ sym w.1)
one (line c) m a b v w = outcome_one (line c) (v.0 ∙ sym w.0) (line_same m a.lent b.lent (v.1 ∙ sym w.1) v.2 w.2)
