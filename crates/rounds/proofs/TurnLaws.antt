-- The cases of a round, as the code meets them.
-- Assumes nothing.
use Rattle.std.proofs.Common.{ℕ, ◌≡◌, sym, ap, ◌∙◌, true, false, None, Option, Some}
use Rattle.names.specs.Sets.{DefaultScope}
use Rattle.places.specs.Places.{at, same, without, cut, place_of}
use Rattle.state.specs.Full.{Full, with_stack, with_list}
use Rattle.standard.specs.Stack.{in_scope, end_tag}
use Rattle.standard.specs.Adoption.{Turn, entry_of, furthest_of, adopted, block_at, blocked, scope_at, scoped, open_at, opened, entry_at, rounded}
use Rattle.rounds.specs.Turns.{turn_of}

module _ (f : Full) where
  -- ---- 4.7 and 4.8

  module _ (fe t j : ℕ) {o : Option ℕ} {y : Full} (eo : o ≡ furthest_of f.nodes.mem f.stack t) where
    pub block_none : o ≡ None → y ≡ with_list (with_stack f (cut f.stack t)) (without f.list j) → turn_of false y ≡ blocked f fe t j
    unfolding blocked block_at
    block_none e ey = ap (turn_of false) ey ∙ rw (sym eo ∙ e)

    pub block_at_lem : {b : ℕ} → o ≡ Some b → y ≡ adopted f fe t j b → turn_of true y ≡ blocked f fe t j
    unfolding blocked block_at
    block_at_lem e ey = ap (turn_of true) ey ∙ rw (sym eo ∙ e)

  -- ---- 4.5

  module _ (fe t j : ℕ) {o : Option ℕ} (eo : o ≡ in_scope DefaultScope (same fe) f.nodes.mem f.stack) where
    pub scope_none : o ≡ None → turn_of false f ≡ scoped f fe t j
    unfolding scoped scope_at
    scope_none e = rw (sym eo ∙ e)

    pub scope_at_lem : {k : ℕ} {y : Turn} → o ≡ Some k → y ≡ blocked f fe t j → y ≡ scoped f fe t j
    unfolding scoped scope_at
    scope_at_lem e ey = ey ∙ rw (sym eo ∙ e)

  -- ---- 4.4

  module _ (j : ℕ) {o : Option ℕ} (eo : o ≡ place_of f.stack (at f.list j)) where
    pub open_none : {y : Full} → o ≡ None → y ≡ with_list f (without f.list j) → turn_of false y ≡ opened f j
    unfolding opened open_at
    open_none e ey = ap (turn_of false) ey ∙ rw (sym eo ∙ e)

    pub open_at_lem : {t : ℕ} {y : Turn} → o ≡ Some t → y ≡ scoped f (at f.list j) t j → y ≡ opened f j
    unfolding opened open_at
    open_at_lem e ey = ey ∙ rw (sym eo ∙ e)

  -- ---- 4.3

  module _ (found : Option ℕ) (token : ℕ) {o : Option ℕ} (eo : o ≡ found) where
    pub entry_none : {y : Full} → o ≡ None → y ≡ with_stack f (end_tag f.nodes.mem f.stack token) → turn_of false y ≡ entry_at found f token
    unfolding entry_at
    entry_none e ey = ap (turn_of false) ey ∙ rw (sym eo ∙ e)

    pub entry_at_lem : {j : ℕ} {y : Turn} → o ≡ Some j → y ≡ opened f j → y ≡ entry_at found f token
    unfolding entry_at
    entry_at_lem e ey = ey ∙ rw (sym eo ∙ e)

  -- the token's name is the subject
  pub round_of : (name : ℕ) {t : Turn} → t ≡ entry_at (entry_of f.nodes.mem f.list name) f name → t ≡ rounded f name
  unfolding rounded
  round_of name e = e
