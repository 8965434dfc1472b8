-- The cases of the walks and of the calls 10 to 13, as the code meets them, for any part of the state that they are not lent.
-- Assumes nothing.
use Rattle.std.proofs.Common.{ℕ, zero, suc, ◌+◌, ◌<◌, ◌≡◌, refl, sym, ◌∙◌, Bool, true, false, not, ◌&&◌, ◌||◌, List, arith, length, get_or, eqb, eq-eqb, eqb-true, None, Option, Some}
use Rattle.names.specs.Space as space
use Rattle.names.specs.Tag as tag
use Rattle.names.specs.Sets.{Names, is_in, cursory, Special, ButtonScope, TableScope, Cursory, Thorough}
use Rattle.lent.specs.Mem.{field, KIND, SPACE, NAME, ELEMENT}
use Rattle.places.specs.Places.{Places, Whole, places_of, at, same, cut, last_with, never}
use Rattle.places.proofs.Laws.{Last, of_whole, last_with_lt, last_found, last_same}
use Rattle.state.specs.declared.Core.{Core}
use Rattle.state.specs.declared.Context.{Context}
use Rattle.state.specs.Fields.{set_depth}
use Rattle.state.specs.Full.{Full, Result, full, refused, done, with_stack}
use Rattle.standard.specs.Formatting.{after}
use Rattle.standard.specs.Html.{is_html}
use Rattle.standard.specs.Small.{cleared}
use Rattle.standard.specs.Stack.{is_of, named, is_cell, in_scope, is_found, popped_while, popped_until, is_implied, implied_ends, implied_set, bad_implied, implied, without_p, closed_p, without_cell, closed_cell, bad_end_tag, ended_at, end_tag, ended}
use Rattle.small.proofs.Laws.{stack_put}
use Rattle.stacks.proofs.Pops.{stays_is, while_is, closed_cut}

-- ---- walks

pub scope_lt : (set : Names) (p : ℕ → Bool) (m s : List ℕ) (d i : ℕ) {o : Option ℕ} → Whole (places_of s d) → o ≡ in_scope set p m (places_of s d) → o ≡ Some i → i < d
unfolding in_scope
scope_lt set p m s d i w eo h = last_with_lt p (is_of set m) s d i (of_whole s d w) (sym eo ∙ h)

-- ---- implied end tags

pub kept_lt : (p : ℕ → Bool) (s : List ℕ) (d i : ℕ) {o : Option ℕ} → Whole (places_of s d) → o ≡ last_with p never (places_of s d) → o ≡ Some i → i < d
kept_lt p s d i w eo h = last_with_lt p never s d i (of_whole s d w) (sym eo ∙ h)

module _ (set : Names) (except : ℕ) (m : List ℕ) (s : Places) (w : Whole s) {o : Option ℕ} (eo : o ≡ last_with (λ n. not (is_implied set except m n)) never s) where
  ends_cut : cut s (after o) ≡ implied_ends set except m s
  unfolding implied_ends last_with
  ends_cut = rw (eo, stays_is (is_implied set except m) s.held (length s.held)) (sym (while_is (is_implied set except m) s w))

  pub ends_some : {i : ℕ} → o ≡ Some i → cut s (i + 1) ≡ implied_ends set except m s
  unfolding after
  ends_some e = rw (← ends_cut, e)

  pub ends_none : o ≡ None → cut s 0 ≡ implied_ends set except m s
  unfolding after
  ends_none e = rw (← ends_cut, e)

pub set_cursory : (kind : ℕ) → kind ≡ 0 → Cursory ≡ implied_set kind
unfolding implied_set
set_cursory kind e = rw e

pub set_thorough : (kind : ℕ) → (kind ≡ 0 → ⊥) → Thorough ≡ implied_set kind
unfolding implied_set
set_thorough zero e = absurd (e refl)
set_thorough (suc k) e = refl

-- ---- the element that is closed stays at the implied end tags, so closing it is a cut

and_both : (a b : Bool) → a && b ≡ true → (a ≡ true) × (b ≡ true)
and_both true b h = (refl, h)
and_both false b h = let z : ◌≡◌ {A = ℕ} 0 1 = cc in absurd (omega arith)

and_no : (a b : Bool) → b ≡ false → a && b ≡ false
and_no true b h = h
and_no false b h = refl

pub html_parts : (m : List ℕ) (n name : ℕ) → is_html m n name ≡ true → (field m n SPACE ≡ space.html) × (field m n NAME ≡ name)
unfolding is_html
html_parts m n name h =
    let a = and_both (eqb (field m n KIND) ELEMENT) (eqb (field m n SPACE) space.html && eqb (field m n NAME) name) h in
    let b = and_both (eqb (field m n SPACE) space.html) (eqb (field m n NAME) name) a.1 in
    (eqb-true (field m n SPACE) space.html b.0, eqb-true (field m n NAME) name b.1)

pub excepted : (set : Names) (m : List ℕ) (n name : ℕ) → is_html m n name ≡ true → is_implied set name m n ≡ false
unfolding is_implied
excepted set m n name h = rw (eq-eqb (field m n NAME) name (html_parts m n name h).1) (and_no (is_of set m n) false refl)

-- no other set has a name that it lacks
pub unlisted : (set : Names) (except : ℕ) (m : List ℕ) (n name : ℕ) → is_in set space.html name ≡ false → is_html m n name ≡ true → is_implied set except m n ≡ false
unfolding is_implied is_of
unlisted set except m n name e h =
    let a = html_parts m n name h in
    let b : is_in set (field m n SPACE) (field m n NAME) ≡ false = rw (a.0, a.1) e in
    rw (and_no (eqb (field m n KIND) ELEMENT) (is_in set (field m n SPACE) (field m n NAME)) b)

pub or_cases : (a b : Bool) → a || b ≡ true → (a ≡ false → b ≡ true)
or_cases true b h g = let z : ◌≡◌ {A = ℕ} 0 1 = cc in absurd (omega arith)
or_cases false b h g = h

cell_stays : (m : List ℕ) (n : ℕ) → is_cell m n ≡ true → is_implied Cursory 0 m n ≡ false
unfolding is_cell cursory
cell_stays m n h = by (is_html m n tag.td) refl
  where
    by : (b : Bool) → is_html m n tag.td ≡ b → is_implied Cursory 0 m n ≡ false
    by true e = unlisted Cursory 0 m n tag.td refl e
    by false e = unlisted Cursory 0 m n tag.th refl (or_cases (is_html m n tag.td) (is_html m n tag.th) h e)

module _ (m : List ℕ) (s : Places) (i : ℕ) (w : Whole s) where
  pub p_cut : in_scope ButtonScope (named m tag.p) m s ≡ Some i → without_p m s ≡ cut s i
  unfolding without_p implied_ends in_scope
  p_cut e =
      let l = last_found (named m tag.p) (is_of ButtonScope m) s i e in
      closed_cut (named m tag.p) (is_implied Cursory tag.p m) s i w l (excepted Cursory m (get_or s.held i 0) tag.p l.has)

  pub cell_cut : in_scope TableScope (is_cell m) m s ≡ Some i → without_cell m s ≡ cut s i
  unfolding without_cell implied_ends in_scope
  cell_cut e =
      let l = last_found (is_cell m) (is_of TableScope m) s i e in
      closed_cut (is_cell m) (is_implied Cursory 0 m) s i w l (cell_stays m (get_or s.held i 0) l.has)

  pub end_cut : (name : ℕ) → in_scope Special (named m name) m s ≡ Some i → end_tag m s name ≡ cut s i
  unfolding end_tag ended_at implied_ends in_scope
  end_cut name e = rw e (by (last_found (named m name) (is_of Special m) s i e))
    where
      by : Last (named m name) s.held (length s.held) i → popped_until (same (at s i)) (popped_while (is_implied Cursory name m) s) ≡ cut s i
      by l = closed_cut (same (at s i)) (is_implied Cursory name m) s i w (last_same (named m name) s i l) (excepted Cursory m (get_or s.held i 0) name l.has)

-- ---- the calls

found_yes : {o : Option ℕ} {i : ℕ} → o ≡ Some i → is_found o ≡ true
unfolding is_found
found_yes e = rw e

found_no : {o : Option ℕ} → o ≡ None → is_found o ≡ false
unfolding is_found
found_no e = rw e

module _ (s n l m p q : List ℕ) (x : Option Context) (c : Core) where
  pub stack_cut : (s' : List ℕ) (size i : ℕ) {c' : Core} → places_of s' size ≡ cut (places_of s c.depth) i → c' ≡ set_depth c size
      → full s' c' x n l m p q ≡ with_stack (full s c x n l m p q) (cut (places_of s c.depth) i)
  stack_cut s' size i ep ec = stack_put s n l m p q x c s' size _ ep ec

pub list_whole : (f g : Full) (t : Places) → Whole f.list → g ≡ with_stack f t → Whole g.list
unfolding with_stack
list_whole f g t w e = rw e w

module _ (f : Full) where
  pub implied_bad : (kind except : ℕ) → bad_implied kind except ≡ true → refused 2 f ≡ implied f kind except
  unfolding implied
  implied_bad kind except h = rw h

  pub implied_done : (kind except : ℕ) (set : Names) (g : Full) → bad_implied kind except ≡ false → set ≡ implied_set kind
      → g ≡ with_stack f (implied_ends set except f.nodes.mem f.stack) → done g ≡ implied f kind except
  unfolding implied
  implied_done kind except set g h es e = rw (h, ← es, e)

  pub closed_p_none : {o : Option ℕ} → o ≡ in_scope ButtonScope (named f.nodes.mem tag.p) f.nodes.mem f.stack → o ≡ None → refused 3 f ≡ closed_p f
  unfolding closed_p
  closed_p_none eo h = rw (found_no (sym eo ∙ h))

  pub closed_p_done : {o : Option ℕ} {i : ℕ} {g : Full} → Whole f.stack → o ≡ in_scope ButtonScope (named f.nodes.mem tag.p) f.nodes.mem f.stack → o ≡ Some i
      → g ≡ with_stack f (cut f.stack i) → done g ≡ closed_p f
  unfolding closed_p
  closed_p_done {i = i} w eo h e = rw (found_yes (sym eo ∙ h), p_cut f.nodes.mem f.stack i w (sym eo ∙ h), e)

  pub closed_cell_none : {o : Option ℕ} → o ≡ in_scope TableScope (is_cell f.nodes.mem) f.nodes.mem f.stack → o ≡ None → refused 3 f ≡ closed_cell f
  unfolding closed_cell
  closed_cell_none eo h = rw (found_no (sym eo ∙ h))

  pub closed_cell_done : {o : Option ℕ} {i : ℕ} {g : Full} {y : Result} → Whole f.stack → o ≡ in_scope TableScope (is_cell f.nodes.mem) f.nodes.mem f.stack → o ≡ Some i
      → g ≡ with_stack f (cut f.stack i) → y ≡ cleared g → y ≡ closed_cell f
  unfolding closed_cell
  closed_cell_done {i = i} w eo h e ey = rw (found_yes (sym eo ∙ h), cell_cut f.nodes.mem f.stack i w (sym eo ∙ h), ey, e)

  module _ (name : ℕ) {o : Option ℕ} (eo : o ≡ in_scope Special (named f.nodes.mem name) f.nodes.mem f.stack) where
    pub end_tag_none : o ≡ None → f ≡ with_stack f (end_tag f.nodes.mem f.stack name)
    unfolding end_tag ended_at with_stack
    end_tag_none e = rw (sym eo ∙ e)

    pub end_tag_at : {i : ℕ} {g : Full} → Whole f.stack → o ≡ Some i → g ≡ with_stack f (cut f.stack i) → g ≡ with_stack f (end_tag f.nodes.mem f.stack name)
    end_tag_at {i} w e eg = rw (end_cut f.nodes.mem f.stack i w name (sym eo ∙ e), eg)

  pub ended_bad : (name : ℕ) → bad_end_tag name ≡ true → refused 2 f ≡ ended f name
  unfolding ended
  ended_bad name h = rw h

  pub ended_done : (name : ℕ) (g : Full) → bad_end_tag name ≡ false → g ≡ with_stack f (end_tag f.nodes.mem f.stack name) → done g ≡ ended f name
  unfolding ended
  ended_done name g h e = rw (h, e)
