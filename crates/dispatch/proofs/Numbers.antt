-- The call that each number stands for.
-- Assumes nothing.
use Rattle.std.proofs.Common.{ℕ, ◌<◌, ◌≤◌, ◌≡◌, ◌∙◌, ◌⊎◌, inl, inr, List, ne_eqb, le-ltb, arith}
use Rattle.records.specs.declared.Record.{Record}
use Rattle.state.specs.Full.{Full, Result, result_of}
use Rattle.standard.specs.Insertion.{inserted_element, inserted_text, inserted_comment}
use Rattle.standard.specs.Small.{marked, cleared, popped, fostered, headed, moded, unmoded}
use Rattle.standard.specs.Stack.{ended, closed_p, closed_cell, implied}
use Rattle.standard.specs.Formatting.{created, reconstructed}
use Rattle.standard.specs.Adoption.{adoption, misnested}
use Rattle.standard.specs.Step.{unknown, middle_step, low_step, high_step, step}

module _ (s : List ℕ) (r : Record) (f : Full) {x : Result} where
  pub step_1 : {t : List ℕ} {from count : ℕ} → t ≡ s → from ≡ r.from → count ≡ r.count → r.call ≡ 1 → x ≡ inserted_element t f r.a r.b r.c from count → x ≡ step s r f
  unfolding step low_step
  step_1 input from count e y = rw e (y ∙ rw (input, from, count))

  pub step_2 : r.call ≡ 2 → x ≡ inserted_text f r.a → x ≡ step s r f
  unfolding step low_step
  step_2 e y = rw e y

  pub step_3 : r.call ≡ 3 → x ≡ inserted_comment f r.a r.b → x ≡ step s r f
  unfolding step low_step
  step_3 e y = rw e y

  pub step_4 : {t : List ℕ} {from count : ℕ} → t ≡ s → from ≡ r.from → count ≡ r.count → r.call ≡ 4 → x ≡ created t f r.a from count → x ≡ step s r f
  unfolding step low_step
  step_4 input from count e y = rw e (y ∙ rw (input, from, count))

  pub step_5 : r.call ≡ 5 → x ≡ marked f → x ≡ step s r f
  unfolding step low_step
  step_5 e y = rw e y

  pub step_6 : r.call ≡ 6 → x ≡ cleared f → x ≡ step s r f
  unfolding step low_step
  step_6 e y = rw e y

  pub step_7 : r.call ≡ 7 → x ≡ reconstructed f → x ≡ step s r f
  unfolding step low_step
  step_7 e y = rw e y

  pub step_8 : r.call ≡ 8 → x ≡ adoption f r.a → x ≡ step s r f
  unfolding step low_step middle_step
  step_8 e y = rw e y

  pub step_9 : r.call ≡ 9 → x ≡ misnested f → x ≡ step s r f
  unfolding step low_step middle_step
  step_9 e y = rw e y

  pub step_10 : r.call ≡ 10 → x ≡ ended f r.a → x ≡ step s r f
  unfolding step low_step middle_step
  step_10 e y = rw e y

  pub step_11 : r.call ≡ 11 → x ≡ closed_p f → x ≡ step s r f
  unfolding step low_step middle_step
  step_11 e y = rw e y

  pub step_12 : r.call ≡ 12 → x ≡ closed_cell f → x ≡ step s r f
  unfolding step low_step middle_step
  step_12 e y = rw e y

  pub step_13 : r.call ≡ 13 → x ≡ implied f r.a r.b → x ≡ step s r f
  unfolding step low_step middle_step
  step_13 e y = rw e y

  pub step_14 : r.call ≡ 14 → x ≡ popped f → x ≡ step s r f
  unfolding step high_step
  step_14 e y = rw e y

  pub step_15 : r.call ≡ 15 → x ≡ fostered f r.a → x ≡ step s r f
  unfolding step high_step
  step_15 e y = rw e y

  pub step_16 : r.call ≡ 16 → x ≡ moded f r.a → x ≡ step s r f
  unfolding step high_step
  step_16 e y = rw e y

  pub step_17 : r.call ≡ 17 → x ≡ unmoded f → x ≡ step s r f
  unfolding step high_step
  step_17 e y = rw e y

  pub step_18 : r.call ≡ 18 → x ≡ headed f r.a → x ≡ step s r f
  unfolding step high_step
  step_18 e y = rw e y

-- any other number
pub step_unknown : (s : List ℕ) (r : Record) (f : Full) {k : ℕ} → (r.call ≡ 0) ⊎ (18 < r.call) → k ≡ 2 → result_of k f ≡ step s r f
unfolding step low_step middle_step high_step unknown
step_unknown s r f (inl e) h = rw (e, h)
step_unknown s r f (inr g) h =
    let other : (k : ℕ) → k ≤ 18 → r.call ≡ k → ⊥ = λ k l e. omega arith in
    rw h
    (simp (
      le-ltb r.call 14 (omega arith),
      ne_eqb r.call 14 (other 14 (omega arith)),
      ne_eqb r.call 15 (other 15 (omega arith)),
      ne_eqb r.call 16 (other 16 (omega arith)),
      ne_eqb r.call 17 (other 17 (omega arith)),
      ne_eqb r.call 18 (other 18 (omega arith)),
    ))
