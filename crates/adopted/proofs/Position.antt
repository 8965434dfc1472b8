-- Where an entry of the list stands, as a position moves: when another entry leaves, when one is put in its place; and that the code's
-- two bookmarks are such positions.
-- Assumes nothing.
use Rattle.std.proofs.Common.{ℕ, zero, suc, ◌+◌, ◌-◌, ◌≤◌, ◌<◌, ◌≡◌, refl, ap, sym, ◌∙◌, Bool, true, false, cond, List, ◌++◌, arith, add-one, eqb, ltb, length, get_or, take, drop, set, length-append, length-take, length-drop, length-set, take_at, drop_at, length-take-le, get_or-append-add, get_or-drop, get_or-take, get_or-set_same, get_or-set_other, eqb-true, lt-ltb, le-ltb, ltb-true, ltb-false, Some}
use Rattle.std.proofs.Math.Decide.{dec_lt}
use Rattle.std.proofs.Math.ListN.{get_or-append}
use Rattle.std.proofs.Math.Seq.{set_split}
use Rattle.std.proofs.lemmas.Bool.{eqb-false}
use Rattle.places.specs.Places.{Places, Whole, at, without, within, swapped, place_of, last_with, down, same, never, exchanged, renamed}
use Rattle.places.proofs.Laws.{Last, last_found, last_same, places_eq, renamed_at_lem, after_at_lem, exchanged_at_lem}
use Rattle.standard.specs.Html.{is_html}
use Rattle.standard.specs.Stack.{named}
use Rattle.standard.specs.Small.{MARKER}
use Rattle.standard.specs.Adoption.{entry_of, gone, at_mark}

-- ---- searches

-- the last that is wanted is found where nothing stops the search
pub last_down : (p : ℕ → Bool) (xs : List ℕ) (k i : ℕ) → Last p xs k i → down p never xs k ≡ Some i
unfolding down
last_down p xs zero i l = absurd (omega (arith, l.below))
last_down p xs (suc k) i l = by (dec_lt i k) (last_down p xs k i)
  where
    by : Dec (i < k) → (Last p xs k i → down p never xs k ≡ Some i) → cond (p (get_or xs k 0)) (Some k) (down p never xs k) ≡ Some i
    by (yes a) r = rw (l.none k a (omega arith)) (r (record { below = a; has = l.has; none = λ j g h. l.none j g (omega arith) }))
    by (no n) r = let z : i ≡ k = omega (arith, l.below) in rw (← z, l.has)

pub place_last : (l : Places) (x q : ℕ) → place_of l x ≡ Some q → Last (same x) l.held (length l.held) q
unfolding place_of
place_last l x q e = last_found (same x) never l q e

pub place_at : (l : Places) (x q : ℕ) → place_of l x ≡ Some q → at l q ≡ x
unfolding at
place_at l x q e = eqb-true (get_or l.held q 0) x (place_last l x q e).has

pub last_place : (l : Places) (x q : ℕ) → Last (same x) l.held (length l.held) q → place_of l x ≡ Some q
unfolding place_of last_with
last_place l x q h = last_down (same x) l.held (length l.held) q h

-- ---- the entry that 4.3 finds

module _ (m : List ℕ) (l : Places) (name j : ℕ) (e : entry_of m l name ≡ Some j) where
  entry_found : Last (named m name) l.held (length l.held) j
  unfolding entry_of
  entry_found = last_found (named m name) (same MARKER) l j e

  pub entry_lt : j < length l.held
  entry_lt = entry_found.below

  pub entry_html : is_html m (at l j) name ≡ true
  unfolding at
  entry_html = entry_found.has

  -- its element stands nowhere after it, so that a search for the element ends at it too
  pub entry_last : place_of l (at l j) ≡ Some j
  entry_last = last_place l (at l j) j (last_same (named m name) l j entry_found)

-- ---- an entry leaves

wo : List ℕ → ℕ → List ℕ
wo xs j = take j xs ++ drop (j + 1) xs

module _ (xs : List ℕ) (j : ℕ) (h : j < length xs) where
  wo_length : length (wo xs j) ≡ length xs - 1
  unfolding wo
  wo_length = simp (length-append, length-take, length-drop) (omega arith)

  wo_before : (i : ℕ) → i < j → get_or (wo xs j) i 0 ≡ get_or xs i 0
  unfolding wo
  wo_before i g = get_or-append (take j xs) (drop (j + 1) xs) 0 i (simp length-take (omega arith)) ∙ get_or-take j xs i 0 g

  wo_after : (i : ℕ) → j ≤ i → get_or (wo xs j) i 0 ≡ get_or xs (i + 1) 0
  unfolding wo
  wo_after i g =
      let l : length (take j xs) ≡ j = length-take-le j xs (omega arith) in
      let e : length (take j xs) + (i - j) ≡ i = omega arith in
      let f : (j + 1) + (i - j) ≡ i + 1 = omega arith in
      ap (λ (m : ℕ). get_or (take j xs ++ drop (j + 1) xs) m 0) (sym e)
      ∙ get_or-append-add (take j xs) (drop (j + 1) xs) (i - j) 0
      ∙ get_or-drop (j + 1) xs (i - j) 0
      ∙ ap (λ (m : ℕ). get_or xs m 0) f

below : (j q : ℕ) → q ≤ j → (j ≡ q → ⊥) → q < j
below j q g n = omega arith

last_wo : (p : ℕ → Bool) (xs : List ℕ) (j q : ℕ) → Last p xs (length xs) q → j < length xs → (j ≡ q → ⊥) → Last p (wo xs j) (length (wo xs j)) (gone q j)
unfolding gone
last_wo p xs j q l h d = rw (wo_length xs j h) (by (ltb j q) refl)
  where
    rest : (i : ℕ) → q < i + 1 → i < length xs - 1 → (i < j → q < i) → Dec (i < j) → p (get_or (wo xs j) i 0) ≡ false
    rest i a b c (yes z) = ap p (wo_before xs j h i z) ∙ l.none i (c z) (omega arith)
    rest i a b c (no z) = ap p (wo_after xs j h i (omega arith)) ∙ l.none (i + 1) a (omega arith)

    by : (b : Bool) → ltb j q ≡ b → Last p (wo xs j) (length xs - 1) (cond b (q - 1) q)
    by true u =
        let z = ltb-true j q u in
        let g : q - 1 + 1 ≡ q = omega arith in
        record {
          below = omega (arith, l.below);
          has = ap p (wo_after xs j h (q - 1) (omega arith) ∙ ap (λ (m : ℕ). get_or xs m 0) g) ∙ l.has;
          none = λ i a b. rest i (omega arith) b (λ v. absurd (omega arith)) (dec_lt i j);
        }
    by false u =
        let z : q < j = below j q (ltb-false j q u) d in
        record {
          below = omega arith;
          has = ap p (wo_before xs j h q z) ∙ l.has;
          none = λ i a b. rest i (omega arith) b (λ v. a) (dec_lt i j);
        }

module _ (l : Places) (j : ℕ) (h : j < length l.held) where
  -- entry j leaves: another one stands where it stood, or one place before
  pub last_without : (p : ℕ → Bool) (q : ℕ) → Last p l.held (length l.held) q → (j ≡ q → ⊥) → Last p (without l j).held (length (without l j).held) (gone q j)
  unfolding without wo
  last_without p q w d = last_wo p l.held j q w h d

  pub without_before : (i : ℕ) → i < j → get_or (without l j).held i 0 ≡ get_or l.held i 0
  unfolding without wo
  without_before i g = wo_before l.held j h i g

-- n, which is not wanted, takes entry j: the one that is stands where it stood
pub last_swapped : (p : ℕ → Bool) (xs : List ℕ) (j q n : ℕ) → Last p xs (length xs) q → (j ≡ q → ⊥) → p n ≡ false → Last p (set xs j n) (length (set xs j n)) q
last_swapped p xs j q n l d m =
    rw (length-set xs j n)
    (record { below = l.below; has = ap p (get_or-set_other xs j q n 0 (λ z. d (sym z))) ∙ l.has; none = λ i a b. by i a b (eqb i j) refl })
  where
    by : (i : ℕ) → q < i → i < length xs → (b : Bool) → eqb i j ≡ b → p (get_or (set xs j n) i 0) ≡ false
    by i a b true u =
        let z : i ≡ j = eqb-true i j u in
        ap (λ (y : ℕ). p (get_or (set xs j n) y 0)) z ∙ ap p (get_or-set_same xs j n 0 (omega arith)) ∙ m
    by i a b false u = ap p (get_or-set_other xs j i n 0 (eqb-false i j u)) ∙ l.none i a b

-- n, which is wanted as none of the others is, takes entry j and stands there
pub last_new : (p : ℕ → Bool) (xs : List ℕ) (j n : ℕ) → j < length xs → p n ≡ true → ((i : ℕ) → i < length xs → p (get_or xs i 0) ≡ false) → Last p (set xs j n) (length (set xs j n)) j
last_new p xs j n h e f =
    rw (length-set xs j n)
    (record { below = h; has = ap p (get_or-set_same xs j n 0 h) ∙ e; none = λ i a b. ap p (get_or-set_other xs j i n 0 (λ z. absurd (omega arith))) ∙ f i b })

-- ---- the two bookmarks as positions

-- right after an entry stays right after it
pub gone_next : (q j : ℕ) → (j ≡ q → ⊥) → gone q j + 1 ≡ gone (q + 1) j
unfolding gone
gone_next q j d = by (ltb j q) refl
  where
    by : (b : Bool) → ltb j q ≡ b → cond b (q - 1) q + 1 ≡ cond (ltb j (q + 1)) (q + 1 - 1) (q + 1)
    by true u = let z = ltb-true j q u in rw (lt-ltb j (q + 1) (omega arith)) (omega arith)
    by false u = let z = below j q (ltb-false j q u) d in rw (le-ltb j (q + 1) (omega arith))

-- while the bookmark stands where it was set, right after the formatting element, the new entry takes that one's place
pub replaced_is : (l : Places) (f j n : ℕ) → Whole l → place_of l f ≡ Some j → renamed l f n ≡ at_mark (Some j) l (j + 1) n
unfolding at_mark gone swapped without within
replaced_is l f j n w e =
    let x = l.held in
    let lt : j < length x = (place_last l f j e).below in
    let li : length (take j x) ≡ j = length-take-le j x (omega arith) in
    let g : j + 1 - 1 ≡ j = omega arith in
    let s : l.size - 1 + 1 ≡ l.size = omega (arith, w.all) in
    sym (renamed_at_lem l f n j e) ∙ rw (lt-ltb j (j + 1) (omega arith), g, s)
    (places_eq (set_split x j n lt ∙ rw (take_at (take j x) (drop (j + 1) x) j li, drop_at (take j x) (drop (j + 1) x) j li, add-one)) refl)

-- once it has moved to right after x, the formatting element leaves and the new entry comes right after x
pub inserted_is : (l : Places) (f x j q n : ℕ) → place_of l f ≡ Some j → place_of l x ≡ Some q → (j ≡ q → ⊥) → exchanged l f x n ≡ at_mark (Some j) l (q + 1) n
unfolding at_mark
inserted_is l f x j q n e g d =
    let w = last_without l j (place_last l f j e).below (same x) q (place_last l x q g) d in
    sym (exchanged_at_lem l (without l j) f x n j e refl)
    ∙ sym (after_at_lem (place_of (without l j) x) (without l j) n (gone q j) (last_place (without l j) x (gone q j) w))
    ∙ ap (λ (p : ℕ). within (without l j) p n) (gone_next q j d)
