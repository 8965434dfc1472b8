-- The cases of begin, as the code meets them.
-- Assumes nothing.
use Rattle.std.proofs.Common.{ℕ, ◌<◌, ◌≤◌, min, ◌≡◌, sym, ◌∙◌, Bool, true, false, List, length, set, lt-ltb, le-ltb, eq-eqb, ne_eqb, Option}
use Rattle.lent.specs.Room.{free_nodes}
use Rattle.state.specs.declared.Context.{Context}
use Rattle.state.specs.declared.State.{State}
use Rattle.standard.specs.Begin.{bad_context, is_template_context, first_modes, begin_answer, begin_nodes, begin_modes, begin_state, begun, begin_of}

module _ (x : Option Context) {b : Bool} (eb : b ≡ is_template_context x) where
  pub begin_modes_one : (m : List ℕ) → b ≡ true → set m 0 16 ≡ begin_modes m x
  unfolding begin_modes
  begin_modes_one m h = rw (sym eb ∙ h)

  pub begin_modes_none : (m : List ℕ) → b ≡ false → m ≡ begin_modes m x
  unfolding begin_modes
  begin_modes_none m h = rw (sym eb ∙ h)

pub begin_refused : (st : State) (n m : List ℕ) (x : Option Context) {k : ℕ} → k ≡ begin_answer n m x → (k ≡ 0 → ⊥) → begun k st n m ≡ begin_of st n m x
unfolding begin_of
begin_refused st n m x ek h = rw (← ek, ne_eqb _ 0 h)

pub begin_done : (st : State) (n m : List ℕ) (x : Option Context) {k : ℕ} {n' m' : List ℕ} {st' : State} → k ≡ begin_answer n m x → k ≡ 0 → n' ≡ begin_nodes n → m' ≡ begin_modes m x → st' ≡ begin_state x → begun 0 st' n' m' ≡ begin_of st n m x
unfolding begin_of
begin_done st n m x ek h en em es = rw (← ek, eq-eqb _ 0 h, en, em, es)
