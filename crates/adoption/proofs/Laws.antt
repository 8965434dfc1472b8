-- The rounds, and the cases of calls 8 and 9, as the code meets them.
-- Assumes nothing.
use Rattle.std.specs.Prelude.{is_some}
use Rattle.std.proofs.Common.{ℕ, zero, suc, ◌-◌, ◌<◌, ◌≤◌, ◌≡◌, refl, sym, ap, ◌∙◌, Bool, true, false, not, ◌&&◌, cond, arith, sub-one, None, Option, Some}
use Rattle.names.specs.Space as space
use Rattle.names.specs.Tag as tag
use Rattle.names.specs.Sets.{is_in, Formatting}
use Rattle.places.specs.Places.{at, cut, place_of}
use Rattle.state.specs.Full.{Full, Result, result_of, done, with_stack}
use Rattle.standard.specs.Html.{is_html, current}
use Rattle.standard.specs.Stack.{shorter}
use Rattle.standard.specs.Adoption.{Turn, entry_of, rounded, rounds, current_at, agency, few_nodes, adoption, leaves, misnested_at, misnested}
use Rattle.rounds.specs.Turns.{turn_of, further}

-- ---- the rounds: after the first, k of them are left

pub rounds_first : (f : Full) (name : ℕ) {t : Turn} → t ≡ rounded f name → further t name 7 ≡ rounds f name 8
unfolding rounds further
rounds_first f name e = rw e

further_zero : (b : Bool) (f : Full) (name : ℕ) → f ≡ further (turn_of b f) name 0
unfolding further rounds
further_zero true f name = refl
further_zero false f name = refl

module _ (b : Bool) (f : Full) (name : ℕ) where
  pub further_none : (k : ℕ) → k ≤ 0 → f ≡ further (turn_of b f) name k
  further_none k h = let z : k ≡ 0 = omega arith in rw z (further_zero b f name)

  pub further_stay : (j k : ℕ) → b ≡ false → further (turn_of b f) name k ≡ further (turn_of b f) name j
  unfolding further
  further_stay j k e = rw e

  pub further_on : (k : ℕ) {t : Turn} → 0 < k → b ≡ true → t ≡ rounded f name → further (turn_of b f) name k ≡ further t name (k - 1)
  unfolding further rounds
  further_on zero h e et = absurd (omega arith)
  further_on (suc k) h e et = rw (e, et, sub-one)

-- ---- 2

-- one test, or both
pub unlisted_other : (s : Bool) {h : Bool} → h ≡ false → h ≡ h && not s
unlisted_other s e = rw e

pub unlisted_named : (s h b : Bool) → h ≡ true → s ≡ not b → b ≡ h && not s
unlisted_named s h true e g = rw (e, g)
unlisted_named s h false e g = rw (e, g)

module _ (f : Full) (name : ℕ) {b : Bool} {y : Full} (eb : b ≡ is_html f.nodes.mem (current f.stack) name && not (is_some (place_of f.list (current f.stack)))) where
  pub agency_popped : b ≡ true → y ≡ with_stack f (cut f.stack (f.stack.size - 1)) → y ≡ agency f name
  unfolding agency current_at shorter
  agency_popped e ey = ey ∙ by (is_html f.nodes.mem (current f.stack) name) (place_of f.list (current f.stack)) (sym eb ∙ e)
    where
      by : (h : Bool) (o : Option ℕ) → h && not (is_some o) ≡ true → with_stack f (cut f.stack (f.stack.size - 1)) ≡ cond h (current_at o f name) (rounds f name 8)
      by true None g = refl
      by true (Some j) g = cc
      by false o g = cc

  pub agency_rounds : b ≡ false → y ≡ rounds f name 8 → y ≡ agency f name
  unfolding agency current_at
  agency_rounds e ey = ey ∙ by (is_html f.nodes.mem (current f.stack) name) (place_of f.list (current f.stack)) (sym eb ∙ e)
    where
      by : (h : Bool) (o : Option ℕ) → h && not (is_some o) ≡ false → rounds f name 8 ≡ cond h (current_at o f name) (rounds f name 8)
      by true None g = cc
      by true (Some j) g = refl
      by false o g = refl

-- ---- 8

module _ (f : Full) (name : ℕ) {b : Bool} (eb : b ≡ is_in Formatting space.html name) where
  pub adoption_bad : b ≡ false → result_of 2 f ≡ adoption f name
  unfolding adoption
  adoption_bad h = rw (sym eb ∙ h)

  module _ (h : b ≡ true) {k : Bool} (ek : k ≡ few_nodes f) where
    pub adoption_few : k ≡ true → result_of 4 f ≡ adoption f name
    unfolding adoption
    adoption_few g = rw (sym eb ∙ h, sym ek ∙ g)

    pub adoption_done : {y : Full} → k ≡ false → y ≡ agency f name → result_of 0 y ≡ adoption f name
    unfolding adoption
    adoption_done g ey = ap done ey ∙ rw (sym eb ∙ h, sym ek ∙ g)

-- ---- 9

module _ (f : Full) (j : ℕ) {k : Bool} (ek : k ≡ few_nodes f) where
  pub misnested_few : k ≡ true → result_of 4 f ≡ misnested_at (Some j) f
  unfolding misnested_at
  misnested_few g = rw (← ek, g)

  pub misnested_done : {w y : Full} → k ≡ false → w ≡ agency f tag.a → y ≡ leaves w (at f.list j) → result_of 0 y ≡ misnested_at (Some j) f
  unfolding misnested_at
  misnested_done g ew ey = ap done ey ∙ rw (ew, ← ek, g)

module _ (f : Full) {o : Option ℕ} (eo : o ≡ entry_of f.nodes.mem f.list tag.a) where
  pub misnested_none : o ≡ None → result_of 0 f ≡ misnested f
  unfolding misnested misnested_at
  misnested_none e = rw (sym eo ∙ e)

  pub misnested_at_lem : {j : ℕ} {y : Result} → o ≡ Some j → y ≡ misnested_at (Some j) f → y ≡ misnested f
  unfolding misnested
  misnested_at_lem e ey = ey ∙ rw (sym eo ∙ e)
