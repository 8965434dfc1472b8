-- The cases of the calls that touch places and flags alone, as the code meets them, for any part of the state that they are not lent.
-- Assumes nothing.
use Rattle.std.proofs.Common.{ℕ, ◌-◌, ◌<◌, ◌≤◌, min, ◌≡◌, refl, sym, ap, ◌∙◌, Bool, true, false, ◌||◌, ◌⊎◌, inl, inr, List, arith, length, get_or, take, drop, length-append, take-append-drop, eqb, ltb, lt-ltb, le-ltb, eq-eqb, ne_eqb, None, Option, Some}
use Rattle.places.specs.Places.{Places, places_of, pushed, cut, place_of}
use Rattle.state.specs.declared.Core.{Core}
use Rattle.state.specs.declared.Context.{Context}
use Rattle.state.specs.Fields.{set_depth, set_counts, set_flags, set_nodes, set_list, set_modes, set_foster, set_head}
use Rattle.state.specs.Full.{Full, full, result_of, refused, done, with_stack, with_list, with_modes, with_nodes, with_flags}
use Rattle.places.proofs.Laws.{at_of}
use Rattle.standard.specs.Html.{current}
use Rattle.standard.specs.Small.{room, MARKER, marked, cleared_at, cleared, popped, fostered, headed, moded, unmoded}

-- the places are as many as were lent
pub room_of : (most : ℕ) (l : List ℕ) (k : ℕ) → room most (places_of l k) ≡ min (length l) most
unfolding room
room_of most l k = ap (λ (n : ℕ). min n most) (sym (length-append (take k l) (drop k l)) ∙ ap length (take-append-drop k l))

pub cleared_found : (p : Places) (i : ℕ) {o : Option ℕ} → o ≡ place_of p MARKER → o ≡ Some i → cut p i ≡ cleared_at (place_of p MARKER) p
unfolding cleared_at
cleared_found p i eo h = rw (sym eo ∙ h)

pub cleared_none : (p : Places) {o : Option ℕ} → o ≡ place_of p MARKER → o ≡ None → cut p 0 ≡ cleared_at (place_of p MARKER) p
unfolding cleared_at
cleared_none p eo h = rw (sym eo ∙ h)

pub size_of : (l : List ℕ) (k : ℕ) → (places_of l k).size ≡ k
size_of l k = refl

-- a count that is set to what it is
pub depth_stays : (c : Core) (d : ℕ) → c.depth ≡ d → c ≡ set_depth c d
unfolding set_depth
depth_stays c d e = rw (← e)

pub list_stays : (c : Core) (k : ℕ) → c.counts.list ≡ k → c ≡ set_list c k
unfolding set_list set_counts
list_stays c k e = rw (← e)

or_right : (a b : Bool) → b ≡ true → a || b ≡ true
or_right true b h = refl
or_right false b h = h

-- ---- the cases

marked_yes : (f : Full) → f.list.size < room 256 f.list → done (with_list f (pushed f.list MARKER)) ≡ marked f
unfolding marked
marked_yes f h = rw (lt-ltb f.list.size (room 256 f.list) h)

marked_no : (f : Full) → room 256 f.list ≤ f.list.size → refused 6 f ≡ marked f
unfolding marked
marked_no f h = rw (le-ltb f.list.size (room 256 f.list) h)

popped_yes : (f : Full) → 2 ≤ f.stack.size → done (with_stack f (cut f.stack (f.stack.size - 1))) ≡ popped f
unfolding popped
popped_yes f h = rw (le-ltb f.stack.size 2 h)

popped_no : (f : Full) → f.stack.size < 2 → refused 3 f ≡ popped f
unfolding popped
popped_no f h = rw (lt-ltb f.stack.size 2 h)

moded_bad : (f : Full) (v : ℕ) → (v ≡ 0) ⊎ (21 < v) → refused 2 f ≡ moded f v
unfolding moded
moded_bad f v (inl e) = rw (eq-eqb v 0 e)
moded_bad f v (inr h) = rw (or_right (eqb v 0) (ltb 21 v) (lt-ltb 21 v h))

moded_yes : (f : Full) (v : ℕ) → (v ≡ 0 → ⊥) → v ≤ 21 → f.modes.size < room 64 f.modes → done (with_modes f (pushed f.modes v)) ≡ moded f v
unfolding moded
moded_yes f v z l h = rw (ne_eqb v 0 z, le-ltb 21 v l, lt-ltb f.modes.size (room 64 f.modes) h)

moded_no : (f : Full) (v : ℕ) → (v ≡ 0 → ⊥) → v ≤ 21 → room 64 f.modes ≤ f.modes.size → refused 6 f ≡ moded f v
unfolding moded
moded_no f v z l h = rw (ne_eqb v 0 z, le-ltb 21 v l, le-ltb f.modes.size (room 64 f.modes) h)

unmoded_yes : (f : Full) → 0 < f.modes.size → done (with_modes f (cut f.modes (f.modes.size - 1))) ≡ unmoded f
unfolding unmoded
unmoded_yes f h = rw (lt-ltb 0 f.modes.size h)

unmoded_no : (f : Full) → f.modes.size ≤ 0 → refused 3 f ≡ unmoded f
unfolding unmoded
unmoded_no f h = rw (le-ltb 0 f.modes.size h)

-- ---- the same from what the code holds

module _ (s n l m p q : List ℕ) (x : Option Context) (c : Core) where
  pub list_put : (l' : List ℕ) (size : ℕ) (P : Places) {c' : Core} → places_of l' size ≡ P → c' ≡ set_list c size → full s c' x n l' m p q ≡ with_list (full s c x n l m p q) P
  unfolding with_list set_list set_counts
  list_put l' size P ep ec = rw (ec, ep)

  modes_put : (m' : List ℕ) (size : ℕ) (P : Places) {c' : Core} → places_of m' size ≡ P → c' ≡ set_modes c size → full s c' x n l m' p q ≡ with_modes (full s c x n l m p q) P
  unfolding with_modes set_modes set_counts
  modes_put m' size P ep ec = rw (ec, ep)

  pub stack_put : (s' : List ℕ) (size : ℕ) (P : Places) {c' : Core} → places_of s' size ≡ P → c' ≡ set_depth c size → full s' c' x n l m p q ≡ with_stack (full s c x n l m p q) P
  unfolding with_stack set_depth
  stack_put s' size P ep ec = rw (ec, ep)

  -- the stack, the nodes and the list
  pub all_put : (s' n' l' : List ℕ) (k d e : ℕ) (P Q : Places) {c₁ c₂ c' : Core} → c₁ ≡ set_nodes c k → c₂ ≡ set_depth c₁ d → c' ≡ set_list c₂ e
      → places_of s' d ≡ P → places_of l' e ≡ Q → full s' c' x n' l' m p q ≡ with_list (with_stack (with_nodes (full s c x n l m p q) n' k) P) Q
  unfolding with_list with_stack with_nodes set_depth set_nodes set_list set_counts
  all_put s' n' l' k d e P Q ek ed ee ep eq = rw (ee, ed, ek, ep, eq)

  pub marked_done : (l' : List ℕ) (size : ℕ) {c' : Core} {k : ℕ} → k ≡ min (length l) 256 → c.counts.list < k → places_of l' size ≡ pushed (places_of l c.counts.list) MARKER
      → c' ≡ set_list c size → result_of 0 (full s c' x n l' m p q) ≡ marked (full s c x n l m p q)
  unfolding room
  marked_done l' size ek h ep ec =
      ap done (list_put l' size _ ep ec) ∙ marked_yes (full s c x n l m p q) (rw (size_of l c.counts.list, room_of 256 l c.counts.list, ← ek) h)

  pub marked_full : min (length l) 256 ≤ c.counts.list → result_of 6 (full s c x n l m p q) ≡ marked (full s c x n l m p q)
  unfolding room
  marked_full h = marked_no (full s c x n l m p q) (rw (room_of 256 l c.counts.list) h)

  pub cleared_done : (l' : List ℕ) (size : ℕ) {c' : Core} → places_of l' size ≡ cleared_at (place_of (places_of l c.counts.list) MARKER) (places_of l c.counts.list)
      → c' ≡ set_list c size → result_of 0 (full s c' x n l' m p q) ≡ cleared (full s c x n l m p q)
  unfolding cleared
  cleared_done l' size ep ec = ap done (list_put l' size _ ep ec)

  pub popped_root : c.depth < 2 → result_of 3 (full s c x n l m p q) ≡ popped (full s c x n l m p q)
  popped_root h = popped_no (full s c x n l m p q) (rw (size_of s c.depth) h)

  pub popped_done : (s' : List ℕ) (size : ℕ) {c' : Core} → 2 ≤ c.depth → places_of s' size ≡ cut (places_of s c.depth) (c.depth - 1) → c' ≡ set_depth c size
      → result_of 0 (full s' c' x n l m p q) ≡ popped (full s c x n l m p q)
  popped_done s' size h ep ec =
      ap done (stack_put s' size _ (ep ∙ rw (size_of s c.depth)) ec) ∙ popped_yes (full s c x n l m p q) (rw (size_of s c.depth) h)

  pub fostered_bad : {on : ℕ} → 1 < on → result_of 2 (full s c x n l m p q) ≡ fostered (full s c x n l m p q) on
  unfolding fostered
  fostered_bad {on} h = rw (lt-ltb 1 on h)

  pub headed_bad : {on : ℕ} → 1 < on → result_of 2 (full s c x n l m p q) ≡ headed (full s c x n l m p q) on
  unfolding headed
  headed_bad {on} h = rw (lt-ltb 1 on h)

  pub fostered_done : {c' : Core} {on : ℕ} → on ≤ 1 → c' ≡ set_foster c on → result_of 0 (full s c' x n l m p q) ≡ fostered (full s c x n l m p q) on
  unfolding fostered with_flags set_foster set_flags
  fostered_done {c'} {on} h ec = rw (ec, le-ltb 1 on h)

  pub headed_done : {c' : Core} {on : ℕ} → on ≤ 1 → c' ≡ set_head c on → result_of 0 (full s c' x n l m p q) ≡ headed (full s c x n l m p q) on
  unfolding headed with_flags set_head set_flags
  headed_done {c'} {on} h ec = rw (ec, le-ltb 1 on h)

  pub mode_zero : {v : ℕ} → v ≡ 0 → result_of 2 (full s c x n l m p q) ≡ moded (full s c x n l m p q) v
  mode_zero {v} h = moded_bad (full s c x n l m p q) v (inl h)

  pub mode_past : {v : ℕ} → 21 < v → result_of 2 (full s c x n l m p q) ≡ moded (full s c x n l m p q) v
  mode_past {v} h = moded_bad (full s c x n l m p q) v (inr h)

  pub mode_done : (m' : List ℕ) (size : ℕ) {c' : Core} {k v : ℕ} → (v ≡ 0 → ⊥) → v ≤ 21 → k ≡ min (length m) 64 → c.counts.modes < k → places_of m' size ≡ pushed (places_of m c.counts.modes) v
      → c' ≡ set_modes c size → result_of 0 (full s c' x n l m' p q) ≡ moded (full s c x n l m p q) v
  unfolding room
  mode_done m' size {v = v} z g ek h ep ec =
      ap done (modes_put m' size _ ep ec) ∙ moded_yes (full s c x n l m p q) v z g (rw (size_of m c.counts.modes, room_of 64 m c.counts.modes, ← ek) h)

  pub mode_full : {v : ℕ} → (v ≡ 0 → ⊥) → v ≤ 21 → min (length m) 64 ≤ c.counts.modes → result_of 6 (full s c x n l m p q) ≡ moded (full s c x n l m p q) v
  unfolding room
  mode_full {v = v} z g h = moded_no (full s c x n l m p q) v z g (rw (room_of 64 m c.counts.modes) h)

  pub unmode_done : (m' : List ℕ) (size : ℕ) {c' : Core} → 0 < c.counts.modes → places_of m' size ≡ cut (places_of m c.counts.modes) (c.counts.modes - 1) → c' ≡ set_modes c size
      → result_of 0 (full s c' x n l m' p q) ≡ unmoded (full s c x n l m p q)
  unmode_done m' size h ep ec =
      ap done (modes_put m' size _ (ep ∙ rw (size_of m c.counts.modes)) ec) ∙ unmoded_yes (full s c x n l m p q) (rw (size_of m c.counts.modes) h)

  pub unmode_none : c.counts.modes ≤ 0 → result_of 3 (full s c x n l m p q) ≡ unmoded (full s c x n l m p q)
  unmode_none h = unmoded_no (full s c x n l m p q) (rw (size_of m c.counts.modes) h)

-- the current node is the last entry
pub current_of : (s : List ℕ) (d : ℕ) → 0 < d → current (places_of s d) ≡ get_or s (d - 1) 0
unfolding current
current_of s d h = rw (size_of s d) (at_of s d (d - 1) (omega arith))
