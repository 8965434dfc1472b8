-- The cases of the entry that a fourth equal tag drives out, as the code meets them.
-- Assumes nothing.
use Rattle.std.proofs.Common.{ℕ, ◌+◌, ◌-◌, ◌<◌, ◌≤◌, ◌≡◌, refl, sym, ap, ◌∙◌, Bool, true, false, cond, List, [], ◌∷◌, arith, length, get_or, take, drop, length-take-le, ltb, lt-ltb, le-ltb, None, Option, Some}
use Rattle.std.specs.Bool.{then_some}
use Rattle.std.specs.Int.{from_bool}
use Rattle.std.proofs.lemmas.List.{drop_more, drop-take}
use Rattle.std.proofs.Math.ListN.{drop_of_length-le}
use Rattle.places.specs.Places.{Places, Whole, places_of, place_of, first_with}
use Rattle.places.proofs.Laws.{never_at, of_whole, place_lt}
use Rattle.places.proofs.First.{first_from}
use Rattle.standard.specs.Small.{MARKER}
use Rattle.standard.specs.Formatting.{after, how_many, after_marker, surplus}

pub marker_at : (l : Places) {o : Option ℕ} {i : ℕ} → o ≡ place_of l MARKER → o ≡ Some i → i + 1 ≡ after_marker l
unfolding after_marker after
marker_at l eo h = rw (sym eo ∙ h)

pub marker_none : (l : Places) {o : Option ℕ} → o ≡ place_of l MARKER → o ≡ None → 0 ≡ after_marker l
unfolding after_marker after
marker_none l eo h = rw (sym eo ∙ h)

pub marker_lt : (s : List ℕ) (d : ℕ) {o : Option ℕ} {i : ℕ} → Whole (places_of s d) → o ≡ place_of (places_of s d) MARKER → o ≡ Some i → i < d
marker_lt s d w eo h = place_lt s d MARKER _ (of_whole s d w) (sym eo ∙ h)

pub one_or_none : (b : Bool) {a : ℕ} → a ≡ from_bool b → a ≤ 1
one_or_none true e = omega arith
one_or_none false e = omega arith

pub here_is : (B : Bool) (i : ℕ) {b : Bool} {o : Option ℕ} → o ≡ then_some b i → b ≡ B → o ≡ cond B (Some i) None
here_is true i eo eb = eo ∙ rw eb
here_is false i eo eb = eo ∙ rw eb

-- ---- the count, over the first `size` entries of l: those from i on are left

many_none : (p : ℕ → Bool) → how_many p [] ≡ 0
unfolding how_many
many_none p = refl

many_cons : (p : ℕ → Bool) (x : ℕ) (xs : List ℕ) → how_many p (x ∷ xs) ≡ cond (p x) 1 0 + how_many p xs
unfolding how_many
many_cons p x xs = refl

one_is : (b : Bool) → cond b 1 0 ≡ from_bool b
one_is true = refl
one_is false = refl

module _ (p : ℕ → Bool) (l : List ℕ) (i : ℕ) where
  pub many_turn : (n a : ℕ) {G : ℕ} {b : Bool} → i < length l → b ≡ p (get_or l i 0) → a ≡ from_bool b → G ≡ n + how_many p (drop i l) → G ≡ (n + a) + how_many p (drop (i + 1) l)
  many_turn n a {b = b} h eb ea g =
      let e : how_many p (drop i l) ≡ a + how_many p (drop (i + 1) l) = ap (how_many p) (drop_more l i 0 h) ∙ many_cons p (get_or l i 0) (drop (i + 1) l) ∙ rw (← eb, one_is b, ← ea) in
      omega arith

  pub many_end : (n : ℕ) {G : ℕ} → length l ≤ i → G ≡ n + how_many p (drop i l) → n ≡ G
  many_end n h g = let e : how_many p (drop i l) ≡ 0 = ap (how_many p) (drop_of_length-le l h) ∙ many_none p in omega arith

-- ---- the whole

-- the entries in use from `first` on
rest_is : (l : List ℕ) (size first : ℕ) → first ≤ size → drop first (take size l) ≡ take (size - first) (drop first l)
rest_is l size first le =
    let e : first + (size - first) ≡ size = omega arith in
    ap (λ (k : ℕ). drop first (take k l)) (sym e) ∙ drop-take first (size - first) l

module _ (p : ℕ → Bool) (l : List ℕ) (size first k : ℕ) (ef : first ≡ after_marker (places_of l size)) (le : first ≤ size) (ek : k ≡ how_many p (take (size - first) (drop first l))) where
  many_is : k ≡ how_many p (drop first (take size l))
  many_is = ek ∙ ap (how_many p) (sym (rest_is l size first le))

  pub surplus_none : k < 3 → None ≡ surplus p (places_of l size)
  unfolding surplus
  surplus_none h = rw (← ef, ← many_is, le-ltb 2 k (omega arith))

  pub surplus_at : {o : Option ℕ} → 3 ≤ k → o ≡ first_with p (drop first (take size l)) first → o ≡ surplus p (places_of l size)
  unfolding surplus
  surplus_at h eo = eo ∙ rw (← ef, ← many_is, lt-ltb 2 k (omega arith))

-- the entry is one of those in use
pub surplus_below : (p : ℕ → Bool) (l : Places) (i : ℕ) → surplus p l ≡ Some i → i < length l.held
unfolding surplus
surplus_below p l i h = by (ltb 2 (how_many p (drop (after_marker l) l.held))) h
  where
    by : (b : Bool) → cond b (first_with p (drop (after_marker l) l.held) (after_marker l)) None ≡ Some i → i < length l.held
    by false e = absurd (never_at i e)
    by true e = (first_from p l.held (after_marker l) i e).below
