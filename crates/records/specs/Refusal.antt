-- The answer numbers: what each refusal is called by number, and 0 for a call that is done.
-- Assumes nothing.
use Rattle.std.specs.Prelude.{ℕ, Result as OkOrErr, Ok, Err}
use Rattle.records.specs.declared.refusal.Refusal.{Refusal}
use Rattle.records.specs.declared.refusal.Refusal.TheVariants.{Unsound, Unknown, NothingToDo, NodesFull, StackFull, PlacesFull, PiecesFull, PairsFull, BadRecord}

abbrev pub number_of : Refusal → ℕ
number_of Unsound = 1
number_of Unknown = 2
number_of NothingToDo = 3
number_of NodesFull = 4
number_of StackFull = 5
number_of PlacesFull = 6
number_of PiecesFull = 7
number_of PairsFull = 8
number_of BadRecord = 9

abbrev pub answer_number : {A : Type 0} → OkOrErr A Refusal → ℕ
answer_number (Ok x) = 0
answer_number (Err e) = number_of e

-- what a call that is done gives; else what was there before
abbrev pub value_or : {A : Type 0} → OkOrErr A Refusal → A → A
value_or (Ok x) a = x
value_or (Err e) a = a
