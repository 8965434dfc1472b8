-- The three demands, each as one statement over the whole interface: no call, run or begin sticks, each is refused exactly when the
-- answer table says and then changes nothing, each keeps a sound state sound, and an adoption takes 32 nodes at most.
-- Assumes nothing.
use Rattle.std.specs.Prelude.{ℕ, ◌+◌, ◌≤◌, ◌≡◌, ◌≢◌, true, List, Option}
use Rattle.records.specs.declared.Record.{Record}
use Rattle.state.specs.declared.Context.{Context}
use Rattle.state.specs.declared.State.{State}
use Rattle.state.specs.Fields.{core_of}
use Rattle.state.specs.Full.{Full, full}
use Rattle.sound.specs.State.{SoundFull}
use Rattle.standard.specs.Adoption.{adoption, misnested}
use Rattle.standard.specs.Begin.{begin_answer, begin_state, begin_nodes, begin_modes, begun, begin_of}
use Rattle.standard.specs.Refusals.{applies, refusals_of}
use Rattle.standard.specs.Run.{run_of}
use Rattle.standard.specs.Step.{step}
use Rattle.adopted.proofs.Bound as bound
use Rattle.kept.specs.Begin.{begin_sound}
use Rattle.kept.specs.Exactly.{answer_applies, answer_lowest}
use Rattle.kept.specs.Fair.{Answer}
use Rattle.kept.specs.Never.{Took, Stops, Begins, step_answers, step_refused, run_answers, run_done, begin_answers, begin_refused}
use Rattle.kept.specs.Step.{step_sound, runs_sound}

-- ---- a call, in any state that the check passes

pub record Stepped (s : List ℕ) (r : Record) (f : Full) : Type 0 where
  -- it answers 0 or 2 to 8
  pub answers : Answer 8 (step s r f).answer
  -- a refusal's number applies
  pub named : (step s r f).answer ≢ 0 → applies (refusals_of s r f) (step s r f).answer ≡ true
  -- where a number applies the call is refused, with the lowest that does
  pub lowest : (k : ℕ) → 2 ≤ k → k ≤ 8 → applies (refusals_of s r f) k ≡ true → (1 ≤ (step s r f).answer) × ((step s r f).answer ≤ k)
  -- a refused call changes nothing
  pub kept : (step s r f).answer ≢ 0 → (step s r f).after ≡ f
  -- and the state after it is sound
  pub sound : SoundFull (step s r f).after

pub step_never_sticks : (s : List ℕ) (r : Record) (f : Full) → SoundFull f → Stepped s r f
step_never_sticks s r f ok =
    record {
      answers = step_answers s r f;
      named = answer_applies s f r;
      lowest = answer_lowest s f r;
      kept = step_refused s r f;
      sound = step_sound f ok s r;
    }

-- ---- a run

pub record Runs (s : List ℕ) (f : Full) : Type 0 where
  -- it answers 0 or 2 to 9
  pub answers : Answer 9 (run_of s f).answer
  -- where it stopped: the records before were done one after the other, and the answer says why it stopped there
  pub byte : ℕ
  pub took : Took s 0 f (run_of s f).done byte (run_of s f).after
  pub stops : Stops s byte (run_of s f).after (run_of s f).answer
  pub sound : SoundFull (run_of s f).after

pub runs_never_stick : (s : List ℕ) (f : Full) → SoundFull f → Runs s f
runs_never_stick s f ok =
    let w = run_done s f in
    record { answers = run_answers s f; byte = w.0; took = w.1; stops = w.2; sound = runs_sound s f ok }

-- ---- a begin, from any bytes and any record

pub record Starts (st : State) (n l m p q : List ℕ) (x : Option Context) : Type 0 where
  pub answers : Begins (begin_answer n m x)
  pub kept : begin_answer n m x ≢ 0 → begin_of st n m x ≡ begun (begin_answer n m x) st n m
  pub sound : begin_answer n m x ≡ 0 → SoundFull (full (begin_state x).stack.handles (core_of (begin_state x)) x (begin_nodes n) l (begin_modes m x) p q)

pub begin_never_sticks : (st : State) (n l m p q : List ℕ) (x : Option Context) → Starts st n l m p q x
begin_never_sticks st n l m p q x =
    record { answers = begin_answers n m x; kept = begin_refused st n m x; sound = begin_sound n l m p q x }

-- ---- the nodes of an adoption

module _ (f : Full) where
  pub adoption_bound : (name : ℕ) → (f.nodes.used ≤ (adoption f name).after.nodes.used) × ((adoption f name).after.nodes.used ≤ f.nodes.used + 32)
  adoption_bound name = bound.adoption_nodes f name

  pub misnested_bound : (f.nodes.used ≤ (misnested f).after.nodes.used) × ((misnested f).after.nodes.used ≤ f.nodes.used + 32)
  misnested_bound = bound.misnested_nodes f
