-- How many lines the dump of a sound state has, how long they are, and that `tree_lines` goes down far enough.
-- Assumes nothing.
use Rattle.std.proofs.Common.{ℕ, zero, suc, ◌+◌, ◌*◌, ◌≤◌, ◌<◌, ◌≡◌, refl, ap, inl, inr, Bool, true, false, cond, List, [], ◌∷◌, ◌++◌, map, arith, length, length-append, eqb, Option}
use Rattle.theory.specs.Fn.{In}
use Rattle.theory.specs.Pigeon.{Within}
use Rattle.lent.specs.Mem.{field, KIND, TIE, COUNT, CONTENTS}
use Rattle.state.specs.declared.Context.{Context}
use Rattle.sound.specs.Sound.{Sound}
use Rattle.kept.specs.Met.{each, down}
use Rattle.kept.specs.Tree.{under}
use Rattle.dump.specs.declared.Cursor.{Cursor}
use Rattle.dump.specs.Line.{line_of}
use Rattle.dump.specs.Order.{own_line}
use Rattle.dump.proofs.LengthLaws.{line_length}
use Rattle.shown.specs.Lines.{every, lines_here, lines_of, Fit}
use Rattle.shown.specs.Cursors.{content_line, parts, cursors_here, cursors_of}
use Rattle.shown.proofs.Walk.{Deep, below, follow_in}
use Rattle.shown.proofs.Linked.{thing, follows, shallow}

-- ---- how many: an element has a line and 16 attributes at most

length_parts : (n l i k : ℕ) → length (parts n l i k) ≡ k
unfolding parts
length_parts n l i zero = refl
length_parts n l i (suc k) = ap suc (length_parts n l (i + 1) k)

pub few_every : (f : ℕ → List Cursor) (g : ℕ → List ℕ) (ys : List ℕ) → ((y : ℕ) → In y ys → length (f y) ≤ 17 * length (g y))
    → length (every f ys) ≤ 17 * length (each g ys)
unfolding every each
few_every f g [] h = omega arith
few_every f g (y ∷ ys) h =
    omega (arith, length-append (f y) (every f ys), length-append (g y) (each g ys), h y (inl refl), few_every f g ys (λ x i. h x (inr i)))

pub within_all : (c : ℕ) (xs : List ℕ) → ((x : ℕ) → In x xs → (0 < x) × (x ≤ c)) → Within c xs
within_all c [] h = tt
within_all c (x ∷ xs) h = let t = h x (inl refl) in (t.0, t.1, within_all c xs (λ y i. h y (inr i)))

-- ---- how long: no level is past 4,095

abbrev Low : List Cursor → Type 0
Low [] = Unit {0}
Low (c ∷ cs) = (c.level ≤ 4095) × Low cs

low_join : (xs ys : List Cursor) → Low xs → Low ys → Low (xs ++ ys)
low_join [] ys a b = b
low_join (x ∷ xs) ys a b = (a.0, low_join xs ys a.1 b)

pub low_every : (f : ℕ → List Cursor) → ((y : ℕ) → Low (f y)) → (ys : List ℕ) → Low (every f ys)
unfolding every
low_every f h [] = tt
low_every f h (y ∷ ys) = low_join (f y) (every f ys) (h y) (low_every f h ys)

low_parts : (n l : ℕ) → l ≤ 4095 → (k i : ℕ) → Low (parts n l i k)
unfolding parts
low_parts n l h zero i = tt
low_parts n l h (suc k) i = (h, low_parts n l h k (i + 1))

low_here : (m : List ℕ) (l n : ℕ) → l ≤ 4095 → Low (cursors_here m l n)
unfolding cursors_here
low_here m l n h = by (eqb (field m n KIND) CONTENTS)
  where
    by : (b : Bool) → Low (cond b (content_line m l (field m n TIE) ∷ []) (own_line n l ∷ parts n l 1 (field m n COUNT)))
    by true = (omega arith, tt)
    by false = (h, low_parts n l h (field m n COUNT) 1)

pub low_below : (m : List ℕ) (k l n : ℕ) → k + l ≤ 4096 → Low (cursors_of m k l n)
unfolding cursors_of
low_below m zero l n h = tt
low_below m (suc k) l n h =
    low_join (cursors_here m l n) (every (cursors_of m k (suc l)) (under m n)) (low_here m l n (omega arith))
    (low_every (cursors_of m k (suc l)) (λ y. low_below m k (suc l) y (omega arith)) (under m n))

pub fit_map : (m p q : List ℕ) (cs : List Cursor) → Low cs → Fit (map (line_of m p q) cs)
fit_map m p q [] h = tt
fit_map m p q (c ∷ cs) h = (line_length m p q c h.0, fit_map m p q cs h.1)

pub every_same : {A : Type 0} (f g : ℕ → List A) (ys : List ℕ) → ((y : ℕ) → In y ys → f y ≡ g y) → every f ys ≡ every g ys
unfolding every
every_same f g [] h = refl
every_same f g (y ∷ ys) h = rw (h y (inl refl), every_same f g ys (λ x i. h x (inr i))) refl

module _ {m ps qs stk fmt tms : List ℕ} {c v u size k s foster head : ℕ} {ctx : Option Context} (o : Sound m ps qs stk fmt tms c v u size k s foster head ctx) where
  few_here : (l n : ℕ) → 1 < n → n ≤ c → length (cursors_here m l n) ≤ 17
  unfolding cursors_here
  few_here l n z h = by (eqb (field m n KIND) CONTENTS)
    where
      by : (b : Bool) → length (cond b (content_line m l (field m n TIE) ∷ []) (own_line n l ∷ parts n l 1 (field m n COUNT))) ≤ 17
      by true = omega arith
      by false = omega (arith, length_parts n l 1 (field m n COUNT), (thing o n z h).few)

  pub few_below : (j l n : ℕ) → 1 < n → n ≤ c → length (cursors_of m j l n) ≤ 17 * length (down (under m) j n)
  unfolding cursors_of down
  few_below zero l n z h = omega arith
  few_below (suc j) l n z h =
      omega (
        arith,
        length-append (cursors_here m l n) (every (cursors_of m j (suc l)) (under m n)),
        few_here l n z h,
        few_every (cursors_of m j (suc l)) (down (under m) j) (under m n)
            (λ y i. let a = follow_in m c n (under m n) (follows o n (omega arith) h) y i in few_below j (suc l) y a.0 a.1),
      )

  -- ---- far enough: going down further meets nothing more

  pub deep_enough : (p q : List ℕ) (i j l n : ℕ) → 1 < n → n ≤ c → Deep m (suc l) n → 4095 ≤ i + l → 4095 ≤ j + l → lines_of m p q i l n ≡ lines_of m p q j l n
  unfolding lines_of
  deep_enough p q zero j l n z h g a b = absurd (omega (arith, shallow o h g))
  deep_enough p q (suc i) zero l n z h g a b = absurd (omega (arith, shallow o h g))
  deep_enough p q (suc i) (suc j) l n z h g a b =
      ap (λ (x : List (List ℕ)). lines_here m p q l n ++ x)
      (every_same (lines_of m p q i (suc l)) (lines_of m p q j (suc l)) (under m n)
      (λ y e.
      let t = follow_in m c n (under m n) (follows o n (omega arith) h) y e in
      deep_enough p q i j (suc l) y t.0 t.1 (below t.0 (rw t.2 g)) (omega arith) (omega arith)))
