-- Each refusal has a number of its own, and a result is its answer number and what was done.
-- Assumes nothing.
use Rattle.std.proofs.Common.{ℕ, ◌≡◌, ◌≢◌, refl, ap, sym, ◌∙◌, [], ◌∷◌, get_or, arith, Result as OkOrErr, Ok, Err}
use Rattle.records.specs.declared.refusal.Refusal.{Refusal}
use Rattle.records.specs.declared.refusal.Refusal.TheVariants.{Unsound, Unknown, NothingToDo, NodesFull, StackFull, PlacesFull, PiecesFull, PairsFull, BadRecord}
use Rattle.records.specs.Refusal.{number_of, answer_number, value_or}

-- the refusal of a number
abbrev refusal_of : ℕ → Refusal
refusal_of n = get_or (Unsound ∷ Unsound ∷ Unknown ∷ NothingToDo ∷ NodesFull ∷ StackFull ∷ PlacesFull ∷ PiecesFull ∷ PairsFull ∷ []) n BadRecord

pub number_of_one : (d e : Refusal) → number_of d ≡ number_of e → d ≡ e
number_of_one d e h = sym (back d) ∙ ap refusal_of h ∙ back e
  where
    back : (e : Refusal) → refusal_of (number_of e) ≡ e
    back Unsound = refl
    back Unknown = refl
    back NothingToDo = refl
    back NodesFull = refl
    back StackFull = refl
    back PlacesFull = refl
    back PiecesFull = refl
    back PairsFull = refl
    back BadRecord = refl

-- none is 0
pub number_of_some : (e : Refusal) → number_of e ≢ 0
number_of_some Unsound h = omega arith
number_of_some Unknown h = omega arith
number_of_some NothingToDo h = omega arith
number_of_some NodesFull h = omega arith
number_of_some StackFull h = omega arith
number_of_some PlacesFull h = omega arith
number_of_some PiecesFull h = omega arith
number_of_some PairsFull h = omega arith
number_of_some BadRecord h = omega arith

-- a result is its answer number and what it gives, x being what was there before
pub result_one : {A : Type 0} (x : A) (a b : OkOrErr A Refusal) → answer_number a ≡ answer_number b → value_or a x ≡ value_or b x → a ≡ b
result_one x (Ok y) (Ok z) h v = ap Ok v
result_one x (Ok y) (Err e) h v = absurd (number_of_some e (sym h))
result_one x (Err e) (Ok y) h v = absurd (number_of_some e h)
result_one x (Err d) (Err e) h v = ap Err (number_of_one d e h)
