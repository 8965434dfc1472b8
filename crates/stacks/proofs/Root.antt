-- The calls 10 to 13 never pop the root: on a whole stack whose entry 0 is an HTML html, at least that entry is left.
-- Assumes nothing.
use Rattle.std.proofs.Common.{ℕ, zero, suc, ◌<◌, ◌≤◌, ◌≡◌, refl, sym, ap, ◌∙◌, Bool, true, false, cond, not, ◌||◌, List, arith, length, get_or, length-take-le, get_or-take, eqb, eq-eqb, None, Option, Some}
use Rattle.std.proofs.Math.Decide.{dec_lt}
use Rattle.names.specs.Space as space
use Rattle.names.specs.Tag as tag
use Rattle.names.specs.Numbers.{is_name}
use Rattle.names.specs.Sets.{is_in, cursory, thorough_adds, Special, ButtonScope, TableScope}
use Rattle.places.specs.Places.{Places, Whole, cut}
use Rattle.state.specs.Full.{Full, refused, done, with_stack, with_list}
use Rattle.standard.specs.Html.{is_html}
use Rattle.standard.specs.Small.{cleared}
use Rattle.standard.specs.Stack.{is_of, named, is_cell, in_scope, is_found, is_implied, implied_ends, implied_set, bad_implied, implied, without_p, closed_p, without_cell, closed_cell, bad_end_tag, ended_at, end_tag, ended}
use Rattle.places.proofs.Laws.{Last, last_found}
use Rattle.stacks.proofs.Pops.{cut_all, stays, stays_le, stays_past, while_is}
use Rattle.stacks.proofs.StackLaws.{html_parts, unlisted, or_cases, p_cut, cell_cut, end_cut}

pub record Rooted (m : List ℕ) (s : Places) : Type 0 where
  pub whole : Whole s
  pub some : 0 < s.size
  pub root : is_html m (get_or s.held 0 0) tag.html ≡ true

-- s' is s cut past the root: entries have been popped from the end, and the first has not
pub record Lower (s s' : Places) : Type 0 where
  pub left : ℕ
  pub some : 0 < left
  pub most : left ≤ s.size
  pub is : s' ≡ cut s left

lower_rooted : {m : List ℕ} {s s' : Places} → Rooted m s → Lower s s' → Rooted m s'
unfolding cut
lower_rooted {m} {s} r l =
    rw l.is
    (record {
      whole = record { all = sym (length-take-le l.left s.held (omega (arith, l.most, r.whole.all))) };
      some = l.some;
      root = ap (λ (n : ℕ). is_html m n tag.html) (get_or-take l.left s.held 0 0 l.some) ∙ r.root;
    })

html_unlisted : (kind : ℕ) → is_in (implied_set kind) space.html tag.html ≡ false
unfolding implied_set cursory thorough_adds
html_unlisted zero = refl
html_unlisted (suc k) = refl

found_none : is_found None ≡ true → ⊥
unfolding is_found
found_none e = let z : ◌≡◌ {A = ℕ} 0 1 = cc in omega arith

other : (m : List ℕ) (n name : ℕ) → is_html m n tag.html ≡ true → is_html m n name ≡ true → name ≡ tag.html
other m n name h e = sym (html_parts m n name e).1 ∙ (html_parts m n tag.html h).1

cell_other : (m : List ℕ) (n : ℕ) → is_html m n tag.html ≡ true → is_cell m n ≡ true → ⊥
unfolding is_cell
cell_other m n h e = by (is_html m n tag.td) refl
  where
    by : (b : Bool) → is_html m n tag.td ≡ b → ⊥
    by true d = let z : tag.td ≡ tag.html = other m n tag.td h d in omega arith
    by false d = let z : tag.th ≡ tag.html = other m n tag.th h (or_cases (is_html m n tag.td) (is_html m n tag.th) e d) in omega arith

or_false : (a b : Bool) → a || b ≡ false → b ≡ false
or_false true b h = let z : ◌≡◌ {A = ℕ} 0 1 = cc in absurd (omega arith)
or_false false b h = h

not_html : (name : ℕ) → bad_end_tag name ≡ false → name ≡ tag.html → ⊥
unfolding bad_end_tag
not_html name h e =
    let f : true ≡ false = sym (eq-eqb name tag.html e) ∙ or_false (not (is_name name)) (eqb name tag.html) h in
    let z : ◌≡◌ {A = ℕ} 0 1 = cc in
    omega arith

-- ---- what is left of the stack

module _ (m : List ℕ) (s : Places) (r : Rooted m s) where
  pub ends_lower : (kind except : ℕ) → Lower s (implied_ends (implied_set kind) except m s)
  unfolding implied_ends
  ends_lower kind except =
      let d : 0 < length s.held = omega (arith, r.some, r.whole.all) in
      record {
        left = stays (is_implied (implied_set kind) except m) s.held (length s.held);
        some = stays_past (is_implied (implied_set kind) except m) s.held (length s.held) 0 d (unlisted (implied_set kind) except m (get_or s.held 0 0) tag.html (html_unlisted kind) r.root);
        most = omega (arith, stays_le (is_implied (implied_set kind) except m) s.held (length s.held), r.whole.all);
        is = while_is (is_implied (implied_set kind) except m) s r.whole;
      }

  -- what is wanted is not the root, so its place is a later one
  later : (p : ℕ → Bool) (i : ℕ) {t : Places} → (p (get_or s.held 0 0) ≡ true → ⊥) → Last p s.held (length s.held) i → t ≡ cut s i → Lower s t
  later p i never l e =
      record { left = i; some = by (dec_lt 0 i); most = omega (arith, l.below, r.whole.all); is = e }
    where
      by : Dec (0 < i) → 0 < i
      by (yes h) = h
      by (no h) = let z : i ≡ 0 = omega arith in absurd (never (ap (λ (j : ℕ). p (get_or s.held j 0)) (sym z) ∙ l.has))

  pub p_lower : is_found (in_scope ButtonScope (named m tag.p) m s) ≡ true → Lower s (without_p m s)
  unfolding in_scope
  p_lower = by (in_scope ButtonScope (named m tag.p) m s) refl
    where
      by : (o : Option ℕ) → in_scope ButtonScope (named m tag.p) m s ≡ o → is_found o ≡ true → Lower s (without_p m s)
      by None e h = absurd (found_none h)
      by (Some i) e h =
          later (named m tag.p) i
          (λ y. let z : tag.p ≡ tag.html = other m (get_or s.held 0 0) tag.p r.root y in omega arith)
          (last_found (named m tag.p) (is_of ButtonScope m) s i e) (p_cut m s i r.whole e)

  pub cell_lower : is_found (in_scope TableScope (is_cell m) m s) ≡ true → Lower s (without_cell m s)
  unfolding in_scope
  cell_lower = by (in_scope TableScope (is_cell m) m s) refl
    where
      by : (o : Option ℕ) → in_scope TableScope (is_cell m) m s ≡ o → is_found o ≡ true → Lower s (without_cell m s)
      by None e h = absurd (found_none h)
      by (Some i) e h =
          later (is_cell m) i (cell_other m (get_or s.held 0 0) r.root) (last_found (is_cell m) (is_of TableScope m) s i e)
          (cell_cut m s i r.whole e)

  end_none : (name : ℕ) → in_scope Special (named m name) m s ≡ None → end_tag m s name ≡ s
  unfolding end_tag ended_at
  end_none name e = rw e

  pub end_lower : (name : ℕ) → bad_end_tag name ≡ false → Lower s (end_tag m s name)
  unfolding in_scope
  end_lower name b = by (in_scope Special (named m name) m s) refl
    where
      by : (o : Option ℕ) → in_scope Special (named m name) m s ≡ o → Lower s (end_tag m s name)
      by None e = record { left = s.size; some = r.some; most = omega arith; is = end_none name e ∙ sym (cut_all s r.whole) }
      by (Some i) e =
          later (named m name) i
          (λ y. not_html name b (other m (get_or s.held 0 0) name r.root y))
          (last_found (named m name) (is_of Special m) s i e) (end_cut m s i r.whole name e)

-- ---- the calls

-- 13
pub implied_rooted : (f : Full) (kind except : ℕ) → Rooted f.nodes.mem f.stack → Rooted (implied f kind except).after.nodes.mem (implied f kind except).after.stack
unfolding implied with_stack
implied_rooted f kind except r = by (bad_implied kind except)
  where
    by : (b : Bool) → Rooted (cond b (refused 2 f) (done (with_stack f (implied_ends (implied_set kind) except f.nodes.mem f.stack)))).after.nodes.mem (cond b (refused 2 f) (done (with_stack f (implied_ends (implied_set kind) except f.nodes.mem f.stack)))).after.stack
    by true = r
    by false = lower_rooted r (ends_lower f.nodes.mem f.stack r kind except)

-- 11
pub closed_p_rooted : (f : Full) → Rooted f.nodes.mem f.stack → Rooted (closed_p f).after.nodes.mem (closed_p f).after.stack
unfolding closed_p with_stack
closed_p_rooted f r = by (is_found (in_scope ButtonScope (named f.nodes.mem tag.p) f.nodes.mem f.stack)) refl
  where
    by : (b : Bool) → is_found (in_scope ButtonScope (named f.nodes.mem tag.p) f.nodes.mem f.stack) ≡ b
        → Rooted (cond b (done (with_stack f (without_p f.nodes.mem f.stack))) (refused 3 f)).after.nodes.mem (cond b (done (with_stack f (without_p f.nodes.mem f.stack))) (refused 3 f)).after.stack
    by false e = r
    by true e = lower_rooted r (p_lower f.nodes.mem f.stack r e)

-- 12
pub closed_cell_rooted : (f : Full) → Rooted f.nodes.mem f.stack → Rooted (closed_cell f).after.nodes.mem (closed_cell f).after.stack
unfolding closed_cell cleared with_stack with_list
closed_cell_rooted f r = by (is_found (in_scope TableScope (is_cell f.nodes.mem) f.nodes.mem f.stack)) refl
  where
    by : (b : Bool) → is_found (in_scope TableScope (is_cell f.nodes.mem) f.nodes.mem f.stack) ≡ b
        → Rooted (cond b (cleared (with_stack f (without_cell f.nodes.mem f.stack))) (refused 3 f)).after.nodes.mem (cond b (cleared (with_stack f (without_cell f.nodes.mem f.stack))) (refused 3 f)).after.stack
    by false e = r
    by true e = lower_rooted r (cell_lower f.nodes.mem f.stack r e)

-- 10
pub ended_rooted : (f : Full) (name : ℕ) → Rooted f.nodes.mem f.stack → Rooted (ended f name).after.nodes.mem (ended f name).after.stack
unfolding ended with_stack
ended_rooted f name r = by (bad_end_tag name) refl
  where
    by : (b : Bool) → bad_end_tag name ≡ b
        → Rooted (cond b (refused 2 f) (done (with_stack f (end_tag f.nodes.mem f.stack name)))).after.nodes.mem (cond b (refused 2 f) (done (with_stack f (end_tag f.nodes.mem f.stack name)))).after.stack
    by true e = r
    by false e = lower_rooted r (end_lower f.nodes.mem f.stack r name e)
