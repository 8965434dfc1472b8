-- What a question gives: its answer, and with answer 0 a value.
-- Assumes nothing.
use Rattle.std.specs.Prelude.{ℕ, Result as OkOrErr, Ok, Err}
use Rattle.records.specs.declared.refusal.Refusal.{Refusal}
use Rattle.records.specs.Refusal.{number_of}

pub record Asked : Type 0 where
  pub answer : ℕ
  pub value : ℕ

abbrev pub told : ℕ → Asked
told v = record { answer = 0; value = v }

abbrev pub refused : ℕ → Asked
refused k = record { answer = k; value = 0 }

-- a question's result by number: v is the number of what it gives
abbrev pub asked : {A : Type 0} → (A → ℕ) → OkOrErr A Refusal → Asked
asked v (Ok x) = told (v x)
asked v (Err e) = refused (number_of e)
