-- Each question's promise allows one result only.
-- Assumes nothing.
use Rattle.std.proofs.Common.{ℕ, ◌≡◌, refl, ap, sym, ◌∙◌, Bool, true, false, List, [], ◌∷◌, get_or, arith, None, Option, Some, Result as OkOrErr, Ok, Err}
use Rattle.lent.specs.declared.Node.{Node}
use Rattle.records.specs.declared.refusal.Refusal.{Refusal}
use Rattle.records.proofs.Refusals.{number_of_one, number_of_some}
use Rattle.sound.specs.State.{SoundFull}
use Rattle.state.specs.declared.State.{State}
use Rattle.edge.specs.Public.{whole, Checked}
use Rattle.edge.proofs.Complete.{checked_one}
use Rattle.queries.specs.declared.reset.Mode.{Mode}
use Rattle.queries.specs.declared.tokenizer.TokenizerState.{TokenizerState}
use Rattle.queries.specs.declared.tokenizer.TokenizerState.TheVariants.{Data, Rcdata, Rawtext, ScriptData, Plaintext}
use Rattle.queries.specs.Told.{Asked, asked, refused}
use Rattle.queries.specs.Reset.{mode_number, reset_mode}
use Rattle.queries.specs.Foreign.{flag_number, is_foreign}
use Rattle.queries.specs.BodyElem.{node_number, FindsNode, body_elem}
use Rattle.queries.specs.Tokenizer.{state_number, tokenizer_state}

-- ---- a result is its number

module _ {A : Type 0} (v : A → ℕ) where
  asked_one : (a b : OkOrErr A Refusal) → ((x y : A) → a ≡ Ok x → b ≡ Ok y → v x ≡ v y → x ≡ y) → asked v a ≡ asked v b → a ≡ b
  asked_one (Ok x) (Ok y) one e = ap Ok (one x y refl refl (ap (λ (s : Asked). s.value) e))
  asked_one (Ok x) (Err e) one g = absurd (number_of_some e (sym (ap (λ (s : Asked). s.answer) g)))
  asked_one (Err e) (Ok y) one g = absurd (number_of_some e (ap (λ (s : Asked). s.answer) g))
  asked_one (Err d) (Err e) one g = ap Err (number_of_one d e (ap (λ (s : Asked). s.answer) g))

mode_one : (x y : Mode) → mode_number x ≡ mode_number y → x ≡ y
mode_one x y e = ap (λ (k : ℕ). record { 0 = k }) e

flag_one : (x y : Bool) → flag_number x ≡ flag_number y → x ≡ y
flag_one true true e = refl
flag_one true false e = absurd (omega arith)
flag_one false true e = absurd (omega arith)
flag_one false false e = refl

node_one : (a b : OkOrErr (Option Node) Refusal) → FindsNode a → FindsNode b → (x y : Option Node) → a ≡ Ok x → b ≡ Ok y → node_number x ≡ node_number y → x ≡ y
node_one a b w v x y ea eb e = by x y (rw ea at w) (rw eb at v) e
  where
    by : (x y : Option Node) → FindsNode (Ok x) → FindsNode (Ok y) → node_number x ≡ node_number y → x ≡ y
    by (Some n) (Some k) w v e = ap (λ (k : ℕ). Some (record { 0 = k })) e
    by (Some n) None w v e = absurd (w e)
    by None (Some k) w v e = absurd (v (sym e))
    by None None w v e = refl

-- the state of a number
abbrev state_of : ℕ → TokenizerState
state_of n = get_or (Data ∷ Rcdata ∷ Rawtext ∷ ScriptData ∷ []) n Plaintext

state_one : (x y : TokenizerState) → state_number x ≡ state_number y → x ≡ y
state_one x y e = sym (back x) ∙ ap state_of e ∙ back y
  where
    back : (t : TokenizerState) → state_of (state_number t) ≡ t
    back Data = refl
    back Rcdata = refl
    back Rawtext = refl
    back ScriptData = refl
    back Plaintext = refl

-- ---- the promises

-- r is what the promise allows, where the question gives y on a sound state, and v is the number of what it gives
abbrev pub Allowed : {A : Type 0} → (A → ℕ) → State → List ℕ → List ℕ → List ℕ → List ℕ → List ℕ → Asked → OkOrErr A Refusal → Type 0
Allowed v st n l m p q y r = Checked (SoundFull (whole st n l m p q)) (asked v r) y (refused 1)

module _ (st : State) (n l m p q : List ℕ) where
  pub reset_one : {a b : OkOrErr Mode Refusal} → Allowed mode_number st n l m p q (reset_mode (whole st n l m p q)) a
      → Allowed mode_number st n l m p q (reset_mode (whole st n l m p q)) b → a ≡ b
  reset_one {a = a} {b} w v = asked_one mode_number a b (λ x y d e. mode_one x y) (checked_one w v)

  pub foreign_one : (kind name : ℕ) {a b : OkOrErr Bool Refusal} → Allowed flag_number st n l m p q (is_foreign (whole st n l m p q) kind name) a
      → Allowed flag_number st n l m p q (is_foreign (whole st n l m p q) kind name) b → a ≡ b
  foreign_one kind name {a = a} {b} w v = asked_one flag_number a b (λ x y d e. flag_one x y) (checked_one w v)

  pub body_one : {a b : OkOrErr (Option Node) Refusal} → Allowed node_number st n l m p q (body_elem (whole st n l m p q)) a → FindsNode a
      → Allowed node_number st n l m p q (body_elem (whole st n l m p q)) b → FindsNode b → a ≡ b
  body_one {a = a} {b} w i v j = asked_one node_number a b (node_one a b i j) (checked_one w v)

  pub tokenizer_one : (scripting : ℕ) {a b : OkOrErr TokenizerState Refusal} → Allowed state_number st n l m p q (tokenizer_state (whole st n l m p q) scripting) a
      → Allowed state_number st n l m p q (tokenizer_state (whole st n l m p q) scripting) b → a ≡ b
  tokenizer_one scripting {a = a} {b} w v = asked_one state_number a b (λ x y d e. state_one x y) (checked_one w v)
