-- Pops as cuts: what "while" and "until" leave of a stack, and that closing an element, implied end tags first, is one cut.
-- Assumes nothing.
use Rattle.std.proofs.Common.{ℕ, zero, suc, ◌+◌, ◌-◌, ◌<◌, ◌≤◌, ◌≡◌, refl, sym, ap, ◌∙◌, Bool, true, false, cond, not, Some, List, append_assoc, arith, sub-one, length, get_or, take, replicate, length-take-le, get_or-take, take-take}
use Rattle.std.proofs.Math.Decide.{dec_lt}
use Rattle.std.proofs.Math.ListN.{replicate-append-replicate}
use Rattle.std.proofs.Math.Seq.{take-length}
use Rattle.places.specs.Places.{Places, Whole, at, cut, down, never}
use Rattle.places.proofs.Laws.{places_eq, Last}
use Rattle.standard.specs.Formatting.{after}
use Rattle.standard.specs.Html.{current}
use Rattle.standard.specs.Stack.{shorter, while_top, popped_while, until_top, popped_until}

-- ---- cuts

pub cut_size : (s : Places) (k : ℕ) → (cut s k).size ≡ k
unfolding cut
cut_size s k = refl

pub cut_cut : (s : Places) (i j : ℕ) → j ≤ i → i ≤ length s.held → cut (cut s i) j ≡ cut s j
unfolding cut
cut_cut s i j ji il =
    let l : length (take i s.held) ≡ i = length-take-le i s.held il in
    let n : (i - j) + (length s.held - i) ≡ length s.held - j = omega arith in
    places_eq
    (take-take j i s.held ji)
    (rw (l, ← append_assoc (replicate (i - j) 0) (replicate (length s.held - i) 0) s.free, replicate-append-replicate {A = ℕ} (i - j) (length s.held - i) 0, n))

pub cut_all : (s : Places) → Whole s → cut s s.size ≡ s
unfolding cut
cut_all s w =
    let n : length s.held - s.size ≡ 0 = omega (arith, w.all) in
    let t : take s.size s.held ≡ s.held = ap (λ (k : ℕ). take k s.held) w.all ∙ take-length s.held in
    places_eq t (rw n)

current_cut : (s : Places) (k : ℕ) → k < length s.held → current (cut s (suc k)) ≡ get_or s.held k 0
unfolding current cut at
current_cut s k h = rw sub-one (get_or-take (suc k) s.held k 0 (omega arith))

shorter_cut : (s : Places) (k : ℕ) → suc k ≤ length s.held → shorter (cut s (suc k)) ≡ cut s k
unfolding shorter
shorter_cut s k h = ap (λ (j : ℕ). cut (cut s (suc k)) j) (ap (λ (j : ℕ). j - 1) (cut_size s (suc k)) ∙ sub-one (suc k)) ∙ cut_cut s (suc k) k (omega arith) h

-- ---- while

-- how many of the first k entries are left when the last ones that have p are popped
pub stays : (ℕ → Bool) → List ℕ → ℕ → ℕ
stays p xs zero = 0
stays p xs (suc k) = cond (p (get_or xs k 0)) (stays p xs k) (suc k)

pub stays_le : (p : ℕ → Bool) (xs : List ℕ) (k : ℕ) → stays p xs k ≤ k
unfolding stays
stays_le p xs zero = omega arith
stays_le p xs (suc k) = by (p (get_or xs k 0)) (stays_le p xs k)
  where
    by : (b : Bool) → stays p xs k ≤ k → cond b (stays p xs k) (suc k) ≤ suc k
    by true h = omega arith
    by false h = omega arith

pub stays_past : (p : ℕ → Bool) (xs : List ℕ) (k i : ℕ) → i < k → p (get_or xs i 0) ≡ false → i < stays p xs k
unfolding stays
stays_past p xs zero i h e = absurd (omega arith)
stays_past p xs (suc k) i h e = by (p (get_or xs k 0)) refl (stays_past p xs k i)
  where
    by : (b : Bool) → p (get_or xs k 0) ≡ b → (i < k → p (get_or xs i 0) ≡ false → i < stays p xs k) → i < cond b (stays p xs k) (suc k)
    by false q r = h
    by true q r = at_top (dec_lt i k)
      where
        at_top : Dec (i < k) → i < stays p xs k
        at_top (yes l) = r l e
        at_top (no n) =
            let j : i ≡ k = omega arith in
            let f : true ≡ false = sym q ∙ ap (λ (y : ℕ). p (get_or xs y 0)) (sym j) ∙ e in
            let z : ◌≡◌ {A = ℕ} 0 1 = cc in
            absurd (omega arith)

while_cut : (p : ℕ → Bool) (s : Places) (k : ℕ) → k ≤ length s.held → while_top p (cut s k) k ≡ cut s (stays p s.held k)
unfolding while_top stays
while_cut p s zero h = refl
while_cut p s (suc k) h =
    rw (current_cut s k h, shorter_cut s k h, while_cut p s k (omega arith)) (by (p (get_or s.held k 0)))
  where
    by : (b : Bool) → cond b (cut s (stays p s.held k)) (cut s (suc k)) ≡ cut s (cond b (stays p s.held k) (suc k))
    by true = refl
    by false = refl

pub while_is : (p : ℕ → Bool) (s : Places) → Whole s → popped_while p s ≡ cut s (stays p s.held (length s.held))
unfolding popped_while
while_is p s w =
    ap (λ (t : Places). while_top p t s.size) (sym (cut_all s w))
    ∙ while_cut p s s.size (omega (arith, w.all))
    ∙ ap (λ (k : ℕ). cut s (stays p s.held k)) w.all

-- what stays is all up to the last entry that has not p
pub stays_is : (p : ℕ → Bool) (xs : List ℕ) (k : ℕ) → after (down (λ n. not (p n)) never xs k) ≡ stays p xs k
unfolding down stays after
stays_is p xs zero = refl
stays_is p xs (suc k) = by (p (get_or xs k 0)) (stays_is p xs k)
  where
    by : (b : Bool) → after (down (λ n. not (p n)) never xs k) ≡ stays p xs k
        → after (cond (not b) (Some k) (down (λ n. not (p n)) never xs k)) ≡ cond b (stays p xs k) (suc k)
    by true e = e
    by false e = omega arith

-- ---- until

until_cut : (p : ℕ → Bool) (s : Places) (k i : ℕ) → k ≤ length s.held → Last p s.held k i → until_top p (cut s k) k ≡ cut s i
unfolding until_top
until_cut p s zero i h l = absurd (omega (arith, l.below))
until_cut p s (suc k) i h l =
    rw (current_cut s k h, shorter_cut s k h) (by (p (get_or s.held k 0)) refl (dec_lt i k) (until_cut p s k i))
  where
    by : (b : Bool) → p (get_or s.held k 0) ≡ b → Dec (i < k) → (k ≤ length s.held → Last p s.held k i → until_top p (cut s k) k ≡ cut s i)
        → cond b (cut s k) (until_top p (cut s k) k) ≡ cut s i
    by true q (yes a) r =
        let f : true ≡ false = sym q ∙ l.none k a (omega arith) in
        let z : ◌≡◌ {A = ℕ} 0 1 = cc in
        absurd (omega arith)
    by true q (no n) r = let j : k ≡ i = omega (arith, l.below) in ap (cut s) j
    by false q (yes a) r = r (omega arith) (record { below = a; has = l.has; none = λ j g e. l.none j g (omega arith) })
    by false q (no n) r =
        let j : k ≡ i = omega (arith, l.below) in
        let f : false ≡ true = sym q ∙ ap (λ (y : ℕ). p (get_or s.held y 0)) j ∙ l.has in
        let z : ◌≡◌ {A = ℕ} 0 1 = cc in
        absurd (omega arith)

until_at : (p : ℕ → Bool) (s : Places) (k i : ℕ) → k ≤ length s.held → Last p s.held k i → popped_until p (cut s k) ≡ cut s i
unfolding popped_until
until_at p s k i h l = ap (until_top p (cut s k)) (cut_size s k) ∙ until_cut p s k i h l

-- Popping what `imp` says and then until `p` pops from the last entry that has p, if that one stays at first: one cut.
pub closed_cut : (p imp : ℕ → Bool) (s : Places) (i : ℕ) → Whole s → Last p s.held (length s.held) i → imp (get_or s.held i 0) ≡ false
    → popped_until p (popped_while imp s) ≡ cut s i
closed_cut p imp s i w l e =
    let le : stays imp s.held (length s.held) ≤ length s.held = stays_le imp s.held (length s.held) in
    let lt : i < stays imp s.held (length s.held) = stays_past imp s.held (length s.held) i l.below e in
    ap (popped_until p) (while_is imp s w)
    ∙ until_at p s (stays imp s.held (length s.held)) i le (record { below = lt; has = l.has; none = λ j g h. l.none j g (omega arith) })
