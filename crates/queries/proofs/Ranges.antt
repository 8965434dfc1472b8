-- What the questions can answer: reset a mode, 1 to 21, or 3; is_foreign 0 or 1, or 2; body_elem always; tokenizer state 0 to 4, or
-- 2 or 3.
-- Assumes nothing.
use Rattle.std.proofs.Common.{ℕ, zero, suc, ◌-◌, ◌<◌, ◌≤◌, ◌≡◌, refl, ◌⊎◌, inl, inr, Bool, true, false, cond, not, ◌&&◌, ◌||◌, List, arith, eqb, ltb, None, Option, Some}
use Rattle.std.proofs.lemmas.Bool.{eqb-false}
use Rattle.names.specs.Space as space
use Rattle.names.specs.Tag as tag
use Rattle.places.specs.Places.{Places, at}
use Rattle.state.specs.declared.Context.{Context}
use Rattle.state.specs.Full.{Full}
use Rattle.sound.specs.State.{SoundFull}
use Rattle.queries.specs.declared.reset.Reset.{Reset}
use Rattle.queries.specs.declared.reset.Reset.TheVariants.{Mode, Template}
use Rattle.queries.specs.declared.tokenizer.TokenizerState.{TokenizerState}
use Rattle.queries.specs.declared.tokenizer.TokenizerState.TheVariants.{Data, Rcdata, Rawtext, ScriptData, Plaintext}
use Rattle.queries.specs.Told.{Asked, told, refused}
use Rattle.queries.specs.Element.{Expanded, standing}
use Rattle.queries.specs.Reset.{BEFORE_HEAD, AFTER_HEAD, IN_CELL, IN_ROW, IN_TABLE_BODY, IN_CAPTION, IN_COLUMN_GROUP, IN_TABLE, IN_HEAD, IN_BODY, IN_FRAMESET, mode_for, mode_at, onward, walked, given, reset_mode}
use Rattle.queries.specs.Foreign.{bad_token, is_html_content, adjusted, is_foreign}
use Rattle.queries.specs.BodyElem.{second, body_elem}
use Rattle.queries.specs.BodyElem as bodies
use Rattle.queries.specs.Tokenizer.{state_in, for_context, tokenizer_state}
use Rattle.queries.specs.Tokenizer as tokens

-- a value from `low` to `high`, or a refusal, from 2 to `most`, without one
pub record Within (low high most : ℕ) (a : Asked) : Type 0 where
  pub one : ((a.answer ≡ 0) × (low ≤ a.value) × (a.value ≤ high)) ⊎ ((2 ≤ a.answer) × (a.answer ≤ most) × (a.value ≡ 0))

module _ {low high most : ℕ} where
  value : (v : ℕ) → low ≤ v → v ≤ high → Within low high most (told v)
  value v a b = record { one = inl (refl, a, b) }

  refusal : (k : ℕ) → 2 ≤ k → k ≤ most → Within low high most (refused k)
  refusal k a b = record { one = inr (a, b, refl) }

  within_or : (b : Bool) {x y : Asked} → (b ≡ true → Within low high most x) → (b ≡ false → Within low high most y) → Within low high most (cond b x y)
  within_or true p q = p refl
  within_or false p q = q refl

-- ---- the modes of the steps

data Listed : Option Reset → Type 0 where
  mode : (v : ℕ) → 1 ≤ v → v ≤ 21 → Listed (Some (Mode v))
  template : Listed (Some Template)
  next : Listed None

data Found : Reset → Type 0 where
  mode : (v : ℕ) → 1 ≤ v → v ≤ 21 → Found (Mode v)
  template : Found Template

listed_or : (b : Bool) {x y : Option Reset} → Listed x → Listed y → Listed (cond b x y)
listed_or true p q = p
listed_or false p q = q

listed_head : (b : Bool) → Listed (Some (Mode (cond b BEFORE_HEAD AFTER_HEAD)))
listed_head true = mode BEFORE_HEAD (omega arith) (omega arith)
listed_head false = mode AFTER_HEAD (omega arith) (omega arith)

listed_name : (head : ℕ) (last : Bool) (name : ℕ) → Listed (mode_for head last name)
unfolding mode_for
listed_name head last name =
    listed_or ((eqb name tag.td || eqb name tag.th) && not last) (mode IN_CELL (omega arith) (omega arith))
    (listed_or (eqb name tag.tr) (mode IN_ROW (omega arith) (omega arith))
    (listed_or (eqb name tag.tbody || (eqb name tag.thead || eqb name tag.tfoot)) (mode IN_TABLE_BODY (omega arith) (omega arith))
    (listed_or (eqb name tag.caption) (mode IN_CAPTION (omega arith) (omega arith))
    (listed_or (eqb name tag.colgroup) (mode IN_COLUMN_GROUP (omega arith) (omega arith))
    (listed_or (eqb name tag.table) (mode IN_TABLE (omega arith) (omega arith))
    (listed_or (eqb name tag.template) template
    (listed_or (eqb name tag.head && not last) (mode IN_HEAD (omega arith) (omega arith))
    (listed_or (eqb name tag.body) (mode IN_BODY (omega arith) (omega arith))
    (listed_or (eqb name tag.frameset) (mode IN_FRAMESET (omega arith) (omega arith))
    (listed_or (eqb name tag.html) (listed_head (eqb head 0)) next))))))))))

listed_at : (head : ℕ) (last : Bool) (e : Expanded) → Listed (mode_at head last e)
unfolding mode_at
listed_at head last e = listed_or (eqb e.space space.html) (listed_name head last e.name) next

found_on : {s : Option Reset} {r : Reset} → Listed s → Found r → Found (onward s r)
unfolding onward
found_on (mode v a b) f = mode v a b
found_on template f = template
found_on next f = f

found_walked : (m : List ℕ) (s : Places) (x : Option Context) (head k : ℕ) → Found (walked m s x head k)
unfolding walked
found_walked m s x head zero = mode IN_BODY (omega arith) (omega arith)
found_walked m s x head (suc k) = found_on (listed_at head (eqb k 0) (standing m x (at s k) k)) (found_walked m s x head k)

pub reset_answers : (f : Full) → SoundFull f → Within 1 21 3 (reset_mode f)
unfolding reset_mode given at
reset_answers f ok = by (found_walked f.nodes.mem f.stack f.context f.flags.head f.stack.size)
  where
    by : {r : Reset} → Found r → Within 1 21 3 (given r f.modes)
    by (mode v a b) = value v a b
    by template =
        within_or (eqb f.modes.size 0) (λ e. refusal 3 (omega arith) (omega arith))
        (λ e.
        let i : f.modes.size - 1 < f.modes.size = omega (arith, eqb-false f.modes.size 0 e) in
        let g = ok.sound.modes.mode (f.modes.size - 1) i in
        value _ g.0 g.1)

pub foreign_answers : (f : Full) (kind name : ℕ) → Within 0 1 2 (is_foreign f kind name)
unfolding is_foreign
foreign_answers f kind name =
    within_or (bad_token kind name) (λ e. refusal 2 (omega arith) (omega arith))
    (λ e. by (is_html_content (adjusted f.nodes.mem f.stack f.context) kind name))
  where
    by : (b : Bool) → Within 0 1 2 (told (cond b 0 1))
    by true = value 0 (omega arith) (omega arith)
    by false = value 1 (omega arith) (omega arith)

pub body_answers : (f : Full) → (body_elem f).answer ≡ 0
unfolding body_elem bodies.given
body_answers f = by (second f.nodes.mem f.stack)
  where
    by : (b : Option ℕ) → (bodies.given b).answer ≡ 0
    by (Some n) = refl
    by None = refl

tokenizer_number : (t : TokenizerState) → Within 0 4 3 (tokens.given t)
unfolding tokens.given
tokenizer_number Data = value 0 (omega arith) (omega arith)
tokenizer_number Rcdata = value 1 (omega arith) (omega arith)
tokenizer_number Rawtext = value 2 (omega arith) (omega arith)
tokenizer_number ScriptData = value 3 (omega arith) (omega arith)
tokenizer_number Plaintext = value 4 (omega arith) (omega arith)

pub tokenizer_answers : (f : Full) (scripting : ℕ) → Within 0 4 3 (tokenizer_state f scripting)
unfolding tokenizer_state for_context
tokenizer_answers f scripting = within_or (ltb 1 scripting) (λ e. refusal 2 (omega arith) (omega arith)) (λ e. by f.context)
  where
    by : (x : Option Context) → Within 0 4 3 (for_context scripting x)
    by None = refusal 3 (omega arith) (omega arith)
    by (Some x) = tokenizer_number (state_in scripting x.space x.name)
