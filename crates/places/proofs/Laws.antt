-- Laws of places: searches, and what the loops that shift, open and cut have done so far.
-- Assumes nothing.
use Rattle.std.proofs.Common.{append_assoc, ℕ, zero, suc, ◌+◌, ◌-◌, ◌≤◌, ◌<◌, ◌≡◌, refl, ap, sym, ◌∙◌, Bool, true, false, List, [], ◌∷◌, ◌++◌, add-one, arith, length, get_or, take, drop, set, replicate, length-append, length-take, length-drop, take_at, take-add, drop-drop, take-take, drop-cons, length-take-le, get_or-take, take-suc, drop_at, drop-set-lt, eq-eqb, ne_eqb, lt-ltb, le-ltb, None, Option, Some}
use Rattle.std.proofs.lemmas.List.Edits.{paste_all}
use Rattle.std.proofs.Math.Decide.{dec_lt}
use Rattle.std.proofs.Math.ListN.{length-replicate}
use Rattle.std.proofs.Math.Seq.{paste, length_paste_head, set_split, append_snoc, set_at, take-set-lt}
use Rattle.std.specs.List.{copy_within}
use Rattle.places.specs.Places.{Places, Whole, places_of, at, pushed, without, within, swapped, cut, down, never, same, last_with, place_of, renamed, renamed_at, after_at, exchanged, exchanged_at, first_of, without_any}

one_more : (n : ℕ) → 0 < n → suc (n - 1) ≡ n
one_more n h = omega arith

pub never_at : (i : ℕ) → None ≡ Some i → ⊥
never_at i e = let z : ◌≡◌ {A = ℕ} 0 1 = cc in omega arith

pub at_at : (k i : ℕ) → Some k ≡ Some i → k ≡ i
at_at k i e = cc

-- entry i is the last of the first k that has p
pub record Last (p : ℕ → Bool) (xs : List ℕ) (k i : ℕ) : Type 0 where
  pub below : i < k
  pub has : p (get_or xs i 0) ≡ true
  pub none : (j : ℕ) → i < j → j < k → p (get_or xs j 0) ≡ false

module _ (hit stop : ℕ → Bool) (h : List ℕ) where
  down_hit' : (k : ℕ) → hit (get_or h k 0) ≡ true → Some k ≡ down hit stop h (suc k)
  unfolding down
  down_hit' k e = simp e

  down_stop' : (k : ℕ) → hit (get_or h k 0) ≡ false → stop (get_or h k 0) ≡ true → None ≡ down hit stop h (suc k)
  unfolding down
  down_stop' k e f = simp (e, f)

  down_on' : (k : ℕ) → hit (get_or h k 0) ≡ false → stop (get_or h k 0) ≡ false → down hit stop h k ≡ down hit stop h (suc k)
  unfolding down
  down_on' k e f = simp (e, f)

  pub down_none : (k : ℕ) → k ≤ 0 → None ≡ down hit stop h k
  unfolding down
  down_none zero e = refl
  down_none (suc k) e = absurd (omega arith)

  pub down_hit : (k : ℕ) → 0 < k → hit (get_or h (k - 1) 0) ≡ true → Some (k - 1) ≡ down hit stop h k
  down_hit k p e = down_hit' (k - 1) e ∙ ap (λ (j : ℕ). down hit stop h j) (one_more k p)

  pub down_stop : (k : ℕ) → 0 < k → hit (get_or h (k - 1) 0) ≡ false → stop (get_or h (k - 1) 0) ≡ true → None ≡ down hit stop h k
  down_stop k p e f = down_stop' (k - 1) e f ∙ ap (λ (j : ℕ). down hit stop h j) (one_more k p)

  -- only what is in use counts
  pub down_take : (d k : ℕ) → k ≤ d → down hit stop (take d h) k ≡ down hit stop h k
  unfolding down
  down_take d zero le = refl
  down_take d (suc k) le = rw (get_or-take d h k 0 (omega arith), down_take d k (omega arith))

  -- what a search finds is the last that is wanted
  pub down_last : (k i : ℕ) → down hit stop h k ≡ Some i → Last hit h k i
  down_last zero i e = absurd (never_at i (down_none zero (omega arith) ∙ e))
  down_last (suc k) i e = by (hit (get_or h k 0)) (stop (get_or h k 0)) refl refl (down_last k i)
    where
      more : Last hit h k i → hit (get_or h k 0) ≡ false → Last hit h (suc k) i
      more l q = record { below = omega (arith, l.below); has = l.has; none = λ j g b. at_top j g b (dec_lt j k) }
        where
          at_top : (j : ℕ) → i < j → j < suc k → Dec (j < k) → hit (get_or h j 0) ≡ false
          at_top j g b (yes a) = l.none j g a
          at_top j g b (no n) = let y : j ≡ k = omega arith in ap (λ (y : ℕ). hit (get_or h y 0)) y ∙ q

      by : (a b : Bool) → hit (get_or h k 0) ≡ a → stop (get_or h k 0) ≡ b → (down hit stop h k ≡ Some i → Last hit h k i) → Last hit h (suc k) i
      by true b p q r =
          let z : k ≡ i = at_at k i (down_hit' k p ∙ e) in
          record { below = omega arith; has = ap (λ (y : ℕ). hit (get_or h y 0)) (sym z) ∙ p; none = λ j g b. absurd (omega arith) }
      by false true p q r = absurd (never_at i (down_stop' k p q ∙ e))
      by false false p q r = more (r (down_on' k p q ∙ e)) p

pub last_with_of : (hit stop : ℕ → Bool) (h : List ℕ) (d : ℕ) → d ≤ length h → last_with hit stop (places_of h d) ≡ down hit stop h d
unfolding last_with
last_with_of hit stop h d le = rw (length-take-le d h le) (down_take hit stop h d d (omega arith))

pub last_with_lt : (hit stop : ℕ → Bool) (h : List ℕ) (d i : ℕ) → d ≤ length h → last_with hit stop (places_of h d) ≡ Some i → i < d
last_with_lt hit stop h d i le e = (down_last hit stop h d i (sym (last_with_of hit stop h d le) ∙ e)).below

pub last_found : (hit stop : ℕ → Bool) (p : Places) (i : ℕ) → last_with hit stop p ≡ Some i → Last hit p.held (length p.held) i
unfolding last_with
last_found hit stop p i e = down_last hit stop p.held (length p.held) i e

-- the entry that was found stands nowhere after its place
pub last_same : (hit : ℕ → Bool) (p : Places) (i : ℕ) → Last hit p.held (length p.held) i → Last (same (at p i)) p.held (length p.held) i
unfolding at
last_same hit p i l =
    record { below = l.below; has = eq-eqb (get_or p.held i 0) (get_or p.held i 0) refl; none = λ j g h. ne_eqb (get_or p.held j 0) (get_or p.held i 0) (λ e. differ j g h e) }
  where
    differ : (j : ℕ) → i < j → j < length p.held → get_or p.held j 0 ≡ get_or p.held i 0 → ⊥
    differ j g h e =
        let f : false ≡ true = sym (l.none j g h) ∙ ap hit e ∙ l.has in
        let z : ◌≡◌ {A = ℕ} 0 1 = cc in
        omega arith

pub place_lt : (h : List ℕ) (d n i : ℕ) → d ≤ length h → place_of (places_of h d) n ≡ Some i → i < d
unfolding place_of
place_lt h d n i le e = last_with_lt (same n) never h d i le e

pub at_of : (h : List ℕ) (d i : ℕ) → i < d → at (places_of h d) i ≡ get_or h i 0
unfolding at
at_of h d i lt = get_or-take d h i 0 lt

-- ---- one store
pub places_eq : {a b c d : List ℕ} {n : ℕ} → a ≡ b → c ≡ d → ◌≡◌ {A = Places} (record { held = a; free = c; size = n }) (record { held = b; free = d; size = n })
places_eq p q = cc

pub swapped_law : (h : List ℕ) (d i n : ℕ) → i < d → d ≤ length h → places_of (set h i n) d ≡ swapped (places_of h d) i n
unfolding swapped
swapped_law h d i n lt le = places_eq (take-set-lt d h i n lt) (drop-set-lt d h i n lt)

pub pushed_law : (h : List ℕ) (d n : ℕ) → d < length h → places_of (set h d n) (d + 1) ≡ pushed (places_of h d) n
unfolding pushed
pushed_law h d n lt =
    let l : length (take d h) ≡ d = length-take-le d h (omega arith) in
    let e : set h d n ≡ (take d h ++ n ∷ []) ++ drop (d + 1) h = set_split h d n lt ∙ rw add-one (sym (append_snoc (take d h) n (drop (suc d) h))) in
    let k : length (take d h ++ n ∷ []) ≡ d + 1 = length-append (take d h) (n ∷ []) ∙ ap (λ (x : ℕ). x + 1) l in
    places_eq
    (ap (λ (x : List ℕ). take (d + 1) x) e ∙ take_at (take d h ++ n ∷ []) (drop (d + 1) h) (d + 1) k)
    (ap (λ (x : List ℕ). drop (d + 1) x) e ∙ drop_at (take d h ++ n ∷ []) (drop (d + 1) h) (d + 1) k ∙ sym (drop-drop 1 d h))

-- the places are whole exactly where they are not fewer than what is in use
pub whole_of : (h : List ℕ) (d : ℕ) → d ≤ length h → Whole (places_of h d)
whole_of h d le = record { all = sym (length-take-le d h le) }

pub of_whole : (h : List ℕ) (d : ℕ) → Whole (places_of h d) → d ≤ length h
of_whole h d w = omega (arith, w.all, length-take d h)

-- ---- an entry leaves
drop_take : (i d : ℕ) (h : List ℕ) → i ≤ d → d ≤ length h → drop i (take d h) ≡ take (d - i) (drop i h)
drop_take i d h id le =
    let e : i + (d - i) ≡ d = omega arith in
    ap (λ (x : ℕ). drop i (take x h)) (sym e) ∙ rw (take-add i (d - i) h) (drop_at (take i h) (take (d - i) (drop i h)) i (length-take-le i h (omega arith)))

-- the entries after it are moved down, and the place that is given up is set to 0
pub removed : (h : List ℕ) (d i : ℕ) → i < d → d ≤ length h → places_of (set (copy_within h (i + 1) d i) (d - 1) 0) (d - 1) ≡ without (places_of h d) i
unfolding without
removed h d i lt le =
    let m = d - (i + 1) in
    let p = take i h ++ take m (drop (i + 1) h) in
    let l : length p ≡ d - 1 = omega (arith, length_paste_head h i (drop (i + 1) h) m (omega arith) (omega (arith, length-drop (i + 1) h))) in
    let n : i + m ≡ d - 1 = omega arith in
    let s : suc (d - 1) ≡ d = omega arith in
    let e : set (p ++ drop (i + m) h) (d - 1) 0 ≡ p ++ (0 ∷ drop d h) = rw (n, drop-cons h (d - 1) 0 (omega arith), s) (set_at p (get_or h (d - 1) 0) (drop d h) 0 (d - 1) l) in
    places_eq
    (ap (λ (x : List ℕ). take (d - 1) x) e ∙ take_at p (0 ∷ drop d h) (d - 1) l ∙ rw (take-take i d h (omega arith), drop_take (i + 1) d h (omega arith) le))
    (ap (λ (x : List ℕ). drop (d - 1) x) e ∙ drop_at p (0 ∷ drop d h) (d - 1) l)

-- ---- an entry comes in
-- the entries from its place on are moved up
pub inserted : (h : List ℕ) (d i n : ℕ) → i ≤ d → d < length h → places_of (set (copy_within h i d (i + 1)) i n) (d + 1) ≡ within (places_of h d) i n
unfolding within
inserted h d i n le lt =
    let p = take (d - i) (drop i h) in
    let r = take i h ++ (n ∷ p) in
    let li : length (take i h) ≡ i = length-take-le i h (omega arith) in
    let lp : length p ≡ d - i = length-take-le (d - i) (drop i h) (omega (arith, length-drop i h)) in
    let l : length r ≡ d + 1 = omega (arith, length-append (take i h) (n ∷ p)) in
    let m : i + 1 + (d - i) ≡ d + 1 = omega arith in
    let j : i + 1 ≡ suc i = add-one i in
    let e : set (take (i + 1) h ++ p ++ drop (i + 1 + (d - i)) h) i n ≡ r ++ drop (d + 1) h
    = rw (m, j, take-suc h i 0 (omega arith), append_snoc (take i h) (get_or h i 0) p, append_assoc (take i h) (get_or h i 0 ∷ p) (drop (d + 1) h), append_assoc (take i h) (n ∷ p) (drop (d + 1) h))
    (set_at (take i h) (get_or h i 0) (p ++ drop (d + 1) h) n i li) in
    places_eq
    (ap (λ (x : List ℕ). take (d + 1) x) e ∙ take_at r (drop (d + 1) h) (d + 1) l ∙ rw (take-take i d h le, drop_take i d h le (omega arith)))
    (ap (λ (x : List ℕ). drop (d + 1) x) e ∙ drop_at r (drop (d + 1) h) (d + 1) l ∙ sym (drop-drop 1 d h))

-- ---- entries cut off
pub places_by : {x y : List ℕ} {p : Places} (i : ℕ) → x ≡ y → places_of y i ≡ p → places_of x i ≡ p
places_by i e f = ap (λ (x : List ℕ). places_of x i) e ∙ f

-- the places from i up to d are set to 0
pub cleared : (h : List ℕ) (d i : ℕ) → i ≤ d → d ≤ length h → places_of (paste h i (replicate (d - i) 0) (d - i)) i ≡ cut (places_of h d) i
unfolding cut
cleared h d i le lt =
    let zeros : List ℕ = replicate (d - i) 0 in
    let l : length (take i h) ≡ i = length-take-le i h (omega arith) in
    let m : i + (d - i) ≡ d = omega arith in
    let e : paste h i zeros (d - i) ≡ take i h ++ (zeros ++ drop d h) = paste_all h i zeros (d - i) (sym (length-replicate {A = ℕ} (d - i) 0)) ∙ rw m in
    places_eq
    (ap (λ (x : List ℕ). take i x) e ∙ take_at (take i h) (zeros ++ drop d h) i l ∙ sym (take-take i d h le))
    (ap (λ (x : List ℕ). drop i x) e ∙ drop_at (take i h) (zeros ++ drop d h) i l ∙ rw (length-take-le d h lt))

-- ---- one law a case
pub renamed_at_lem : (p : Places) (f n j : ℕ) → place_of p f ≡ Some j → swapped p j n ≡ renamed p f n
unfolding renamed renamed_at
renamed_at_lem p f n j e = rw e

pub after_at_lem : (q : Option ℕ) (p : Places) (n i : ℕ) → q ≡ Some i → within p (i + 1) n ≡ after_at q p n
unfolding after_at
after_at_lem q p n i e = rw e

pub exchanged_none : (p : Places) (f x n : ℕ) → place_of p f ≡ None → p ≡ exchanged p f x n
unfolding exchanged exchanged_at
exchanged_none p f x n e = rw e

pub exchanged_at_lem : (p q : Places) (f x n j : ℕ) → place_of p f ≡ Some j → q ≡ without p j → after_at (place_of q x) q n ≡ exchanged p f x n
unfolding exchanged exchanged_at
exchanged_at_lem p q f x n j e d = rw (e, d)

pub first_none : (f g : Option ℕ) → f ≡ None → g ≡ first_of f g
unfolding first_of
first_none f g e = rw e

pub without_in : (s : List ℕ) (d i : ℕ) → i < d → without_any (places_of s d) i ≡ without (places_of s d) i
unfolding without_any
without_in s d i lt = rw (lt-ltb i d lt)

pub without_out : (s : List ℕ) (d i : ℕ) → d ≤ i → without_any (places_of s d) i ≡ places_of s d
unfolding without_any
without_out s d i le = rw (le-ltb i d le)
