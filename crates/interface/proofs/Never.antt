-- No call sticks, the questions of module 8 included: in a sound state each is refused exactly when the answer table says, with the
-- lowest number that applies, and then changes nothing; else it gives what its definition gives, and the state is sound after it.
-- Assumes nothing.
use Rattle.std.proofs.Common.{refl, ap, ℕ}
use Rattle.state.specs.Full.{Full}
use Rattle.sound.specs.State.{SoundFull}
use Rattle.standard.specs.Step.{step}
use Rattle.kept.specs.Demands as numbers
use Rattle.interface.specs.Questions.{answer_of, refusals_of_question}
use Rattle.interface.specs.Calls.{Call, numbered, question, effect, effect_of, refusals_of_call, Settled}
use Rattle.interface.proofs.Lowest.{lowest_answers}
use Rattle.interface.proofs.Exact.{question_exact, question_applies, question_lowest, question_refused}

pub never_sticks : (c : Call) (f : Full) → SoundFull f → Settled c f (effect_of c f)
unfolding effect_of refusals_of_call
never_sticks (numbered s r) f ok =
    let w = numbers.step_never_sticks s r f ok in
    record {
      answers = w.answers;
      named = w.named;
      lowest = w.lowest;
      done = λ e. refl;
      kept = λ d. ap (λ (g : Full). effect (step s r f).answer 0 g) (w.kept d);
      sound = w.sound;
    }
never_sticks (question q) f ok =
    record {
      answers = rw (question_exact q f) (lowest_answers (refusals_of_question q f));
      named = question_applies q f;
      lowest = question_lowest q f;
      done = λ e. refl;
      kept = λ d. ap (λ (v : ℕ). effect (answer_of q f).answer v f) (question_refused q f ok d);
      sound = ok;
    }
