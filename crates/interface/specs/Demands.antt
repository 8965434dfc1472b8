-- What the demands come to for each public call, on any record and any lent memory.
-- Assumes nothing.
use Rattle.std.specs.Prelude.{ℕ, ◌≤◌, min, ◌≡◌, ◌≢◌, true, false, List, ltb, length, Option}
use Rattle.theory.specs.Says.{Says}
use Rattle.lent.specs.Room.{free_nodes}
use Rattle.records.specs.Refusal.{answer_number, value_or}
use Rattle.state.specs.declared.Context.{Context}
use Rattle.state.specs.declared.State.{State}
use Rattle.state.specs.Full.{Full}
use Rattle.sound.specs.State.{SoundFull}
use Rattle.standard.specs.Begin.{bad_context, first_modes, begun, begin_of}
use Rattle.standard.specs.Refusals.{Refusals, refusals, applies}
use Rattle.standard.specs.Run.{Ran, ran, run_of}
use Rattle.kept.specs.Never.{Begins}
use Rattle.kept.specs.Demands.{Runs}
use Rattle.interface.specs.Questions.{asked_by}
use Rattle.interface.specs.Calls.{effect}
use Rattle.interface.specs.Edge.{by_record, by_question, AtEdge}
use Rattle.interface.specs.Public.{Public, check, begin, run, call, ask, start, next, line, Lent, Outcome, state_in, LineRest}

-- ---- begin

-- it refuses with 2, 4 or 6
unfoldable pub refusals_of_begin : List ℕ → List ℕ → Option Context → Refusals
refusals_of_begin n m x = refusals (bad_context x) false (ltb (free_nodes n 0) 2) false (ltb (min (length m) 64) (first_modes x)) false false

pub record BeginAtEdge (st : State) (x : Option Context) (m : Lent) (o : Outcome (begin st x)) : Type 0 where
  -- it answers 0, 2, 4 or 6, whatever the record and the memory hold
  pub answers : Begins (answer_number o.gives)
  -- a refusal's number applies, and no lower one does
  pub named : answer_number o.gives ≢ 0 → applies (refusals_of_begin m.nodes m.modes x) (answer_number o.gives) ≡ true
  pub lowest : (k : ℕ) → 2 ≤ k → k ≤ 8 → applies (refusals_of_begin m.nodes m.modes x) k ≡ true → (1 ≤ answer_number o.gives) × (answer_number o.gives ≤ k)
  -- done, it gives the new state, and that is sound
  pub is : begun (answer_number o.gives) (value_or o.gives st) o.lent.nodes o.lent.modes ≡ begin_of st m.nodes m.modes x
  pub sound : answer_number o.gives ≡ 0 → SoundFull (state_in (value_or o.gives st) o.lent)
  -- refused, it changes nothing
  pub kept : answer_number o.gives ≢ 0 → (value_or o.gives st ≡ st) × (o.lent ≡ m)

-- ---- runs

pub record RunAtEdge (s : List ℕ) (f : Full) (r : Ran) : Type 0 where
  -- answer 1 is given exactly if the state is not sound
  pub unsound : ¬ SoundFull f → r ≡ ran 1 0 f
  pub one : r.answer ≡ 1 → ¬ SoundFull f
  -- else it is the run of the definition, which stops at the first refusal and leaves a sound state
  pub settled : SoundFull f → (r ≡ run_of s f) × Runs s f

-- ---- a record alone

pub record CallAtEdge (st : State) (m : Lent) (o : Outcome (call st)) : Type 0 where
  pub edge : AtEdge (by_record m.input) (state_in st m) (effect (answer_number o.gives.answer) 0 (state_in o.gives.state o.lent))
  -- refused, it changes nothing in the record and nothing lent
  pub kept : answer_number o.gives.answer ≢ 0 → (o.gives.state ≡ st) × (o.lent ≡ m)

-- ---- all

abbrev pub Demands : (c : Public) → Lent → Outcome c → Type 0
Demands (check st) m o = Says (SoundFull (state_in st m)) o.gives × (o.lent ≡ m)
Demands (begin st x) m o = BeginAtEdge st x m o
Demands (run st) m o = RunAtEdge m.input (state_in st m) (ran (answer_number o.gives.answer) o.gives.done (state_in o.gives.state o.lent))
Demands (call st) m o = CallAtEdge st m o
Demands (ask q st) m o = AtEdge (by_question q) (state_in st m) (effect (asked_by q o.gives).answer (asked_by q o.gives).value (state_in st o.lent)) × (o.lent ≡ m)
Demands start m o = o.lent ≡ m
Demands (next c) m o = o.lent ≡ m
Demands (line c) m o = LineRest m o.lent
