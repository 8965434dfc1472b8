-- The answer of a question is the lowest number of the answer table that applies to it, and 0 if none does: each refusal exactly when
-- `refusals_of_question` says so.
-- Assumes nothing.
use Rattle.std.proofs.Common.{ℕ, ◌-◌, ◌≤◌, ◌≡◌, refl, ap, ◌∙◌, ◌≢◌, ◌⊎◌, inl, inr, Bool, true, false, cond, ◌&&◌, eqb, ltb, None, Option, Some}
use Rattle.places.specs.Places.{Places, at}
use Rattle.state.specs.declared.Context.{Context}
use Rattle.state.specs.Full.{Full}
use Rattle.sound.specs.State.{SoundFull}
use Rattle.standard.specs.Refusals.{refusals, applies, least, lowest, only_unknown, only_nothing}
use Rattle.kept.specs.Exactly.{lowest_applies, lowest_least}
use Rattle.queries.specs.declared.reset.Reset.{Reset}
use Rattle.queries.specs.declared.reset.Reset.TheVariants.{Mode, Template}
use Rattle.queries.specs.Told.{Asked, told, refused}
use Rattle.queries.specs.Reset.{given, reset_mode}
use Rattle.queries.specs.Foreign.{bad_token, is_foreign}
use Rattle.queries.specs.Tokenizer.{for_context, tokenizer_state}
use Rattle.queries.specs.Tokenizer as tokens
use Rattle.queries.proofs.Ranges.{Within, reset_answers, foreign_answers, body_answers, tokenizer_answers}
use Rattle.interface.specs.Questions.{Question, reset, foreign, body, tokenizer, answer_of, without_context, at_template, refusals_of_question}
use Rattle.interface.proofs.Reset.{ends_there, walk_ends}

-- ---- question by question

module _ (f : Full) where
  given_exact : (r : Reset) (s : Places) → (given r s).answer ≡ lowest (only_nothing (ends_there r && eqb s.size 0))
  unfolding given ends_there lowest least applies
  given_exact (Mode m) s = refl
  given_exact Template s = by (eqb s.size 0)
    where
      by : (b : Bool) → (cond b (refused 3) (told (at s (s.size - 1)))).answer ≡ lowest (only_nothing b)
      by true = refl
      by false = refl

  reset_exact : (reset_mode f).answer ≡ lowest (only_nothing (at_template f f.stack.size && eqb f.modes.size 0))
  unfolding reset_mode
  reset_exact = given_exact _ f.modes ∙ ap (λ (b : Bool). lowest (only_nothing (b && eqb f.modes.size 0))) (walk_ends f f.stack.size)

  foreign_exact : (kind name : ℕ) → (is_foreign f kind name).answer ≡ lowest (only_unknown (bad_token kind name))
  unfolding is_foreign lowest least applies
  foreign_exact kind name = by (bad_token kind name) _
    where
      by : (b : Bool) (v : ℕ) → (cond b (refused 2) (told v)).answer ≡ lowest (only_unknown b)
      by true v = refl
      by false v = refl

  tokenizer_exact : (scripting : ℕ) → (tokenizer_state f scripting).answer ≡ lowest (refusals (ltb 1 scripting) (without_context f.context) false false false false false)
  unfolding tokenizer_state for_context tokens.given without_context lowest least applies
  tokenizer_exact scripting = by (ltb 1 scripting) f.context
    where
      by : (b : Bool) (x : Option Context) → (cond b (refused 2) (for_context scripting x)).answer ≡ lowest (refusals b (without_context x) false false false false false)
      by true x = refl
      by false None = refl
      by false (Some x) = refl

-- ---- all

-- the answer is the lowest number that applies
pub question_exact : (q : Question) (f : Full) → (answer_of q f).answer ≡ lowest (refusals_of_question q f)
unfolding answer_of refusals_of_question lowest least applies
question_exact reset f = reset_exact f
question_exact (foreign kind name) f = foreign_exact f kind name
question_exact body f = body_answers f
question_exact (tokenizer scripting) f = tokenizer_exact f scripting

module _ (q : Question) (f : Full) where
  -- a refusal's number applies
  pub question_applies : (answer_of q f).answer ≢ 0 → applies (refusals_of_question q f) (answer_of q f).answer ≡ true
  question_applies d = rw (question_exact q f) (lowest_applies (refusals_of_question q f) (rw (question_exact q f) at d))

  -- where a number applies, the question is refused, with that number or a lower one
  pub question_lowest : (k : ℕ) → 2 ≤ k → k ≤ 8 → applies (refusals_of_question q f) k ≡ true → (1 ≤ (answer_of q f).answer) × ((answer_of q f).answer ≤ k)
  question_lowest k a b e = rw (question_exact q f) (lowest_least (refusals_of_question q f) k a b e)

-- a refused question has no value
pub question_refused : (q : Question) (f : Full) → SoundFull f → (answer_of q f).answer ≢ 0 → (answer_of q f).value ≡ 0
unfolding answer_of
question_refused q f ok d = by q d
  where
    none : {low high most : ℕ} {a : Asked} → Within low high most a → a.answer ≢ 0 → a.value ≡ 0
    none w d = from w.one d
      where
        from : {low high most : ℕ} {a : Asked} → ((a.answer ≡ 0) × (low ≤ a.value) × (a.value ≤ high)) ⊎ ((2 ≤ a.answer) × (a.answer ≤ most) × (a.value ≡ 0)) → a.answer ≢ 0 → a.value ≡ 0
        from (inl h) d = absurd (d h.0)
        from (inr h) d = h.2

    by : (q : Question) → (answer_of q f).answer ≢ 0 → (answer_of q f).value ≡ 0
    by reset d = none (reset_answers f ok) d
    by (foreign kind name) d = none (foreign_answers f kind name) d
    by body d = absurd (d (body_answers f))
    by (tokenizer scripting) d = none (tokenizer_answers f scripting) d
