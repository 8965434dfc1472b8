-- Every call of the interface, by number or a question, what comes of it, and what each one owes in a sound state.
-- Assumes nothing.
use Rattle.std.specs.Prelude.{ℕ, ◌≤◌, ◌≡◌, ◌≢◌, true, List}
use Rattle.records.specs.declared.Record.{Record}
use Rattle.state.specs.Full.{Full}
use Rattle.sound.specs.State.{SoundFull}
use Rattle.standard.specs.Step.{step}
use Rattle.standard.specs.Refusals.{Refusals, applies, refusals_of}
use Rattle.kept.specs.Fair.{Answer}
use Rattle.interface.specs.Questions.{Question, answer_of, refusals_of_question}

-- a call by number, 1 to 18 or any other, with the input that holds its record; or a question
pub data Call : Type 0 where
  numbered : List ℕ → Record → Call
  question : Question → Call

-- the answer, the value, which is 0 where a call has none, and the state after it
pub record Effect : Type 0 where
  pub answer : ℕ
  pub value : ℕ
  pub after : Full

abbrev pub effect : ℕ → ℕ → Full → Effect
effect k v f = record { answer = k; value = v; after = f }

-- as the definitions have it: a question changes nothing
unfoldable pub effect_of : Call → Full → Effect
effect_of (numbered s r) f = effect (step s r f).answer 0 (step s r f).after
effect_of (question q) f = effect (answer_of q f).answer (answer_of q f).value f

unfoldable pub refusals_of_call : Call → Full → Refusals
refusals_of_call (numbered s r) f = refusals_of s r f
refusals_of_call (question q) f = refusals_of_question q f

pub record Settled (c : Call) (f : Full) (o : Effect) : Type 0 where
  -- it answers 0 or 2 to 8
  pub answers : Answer 8 o.answer
  -- a refusal's number applies
  pub named : o.answer ≢ 0 → applies (refusals_of_call c f) o.answer ≡ true
  -- where a number applies the call is refused, with the lowest that does
  pub lowest : (k : ℕ) → 2 ≤ k → k ≤ 8 → applies (refusals_of_call c f) k ≡ true → (1 ≤ o.answer) × (o.answer ≤ k)
  -- a call that is done gives what its definition gives
  pub done : o.answer ≡ 0 → o ≡ effect_of c f
  -- a refused call changes nothing and has no value
  pub kept : o.answer ≢ 0 → o ≡ effect o.answer 0 f
  -- and the state after it is sound
  pub sound : SoundFull o.after
