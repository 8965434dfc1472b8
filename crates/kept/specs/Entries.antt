-- The rules on the formatting list, when an entry leaves, comes in as the last, or is replaced.
-- Assumes nothing.
use Rattle.std.specs.Prelude.{ℕ, suc, ◌+◌, ◌-◌, ◌≤◌, ◌<◌, ◌≡◌, ◌≢◌, true, cond, List, [], ◌∷◌, ◌++◌, ltb, length, take, drop, set}
use Rattle.std.proofs.Common.{sym, ap, ◌∙◌, arith, lt-ltb, le-ltb, length-append, length-drop, length-set, get_or-take, get_or-drop, get_or-append-add, get_or-set_same, get_or-set_other, length-take-le, length-take}
use Rattle.std.proofs.Math.Decide.{ℕ_discrete, dec_lt}
use Rattle.std.proofs.Math.ListN.{get_or-append}
use Rattle.std.proofs.lemmas.List.{get_or_at}
use Rattle.theory.specs.Fn.{at}
use Rattle.names.specs.Sets.{is_in, Formatting}
use Rattle.names.specs.Space as space
use Rattle.lent.specs.Mem.{field, KIND, SPACE, NAME, ELEMENT}
use Rattle.places.specs.Places.{Places, Whole, without, swapped}
use Rattle.sound.specs.Sound.{Entry, Entries, MARKER}
use Rattle.kept.specs.Front.{entry_front, front_more}

-- ---- fewer entries, in the same order

-- entry i of l' is entry g i of l, and g rises
pub record Picks (l l' : List ℕ) (k k' : ℕ) (g : ℕ → ℕ) : Type 0 where
  pub same : (i : ℕ) → i < k' → at l' i ≡ at l (g i)
  pub below : (i : ℕ) → i < k' → g i < k
  pub rises : (i j : ℕ) → i < j → j < k' → g i < g j

pub entries_picked : {m l l' : List ℕ} {c k k' : ℕ} {g : ℕ → ℕ} → Entries m c l k → Picks l l' k k' g → Entries m c l' k'
entries_picked {m} {l} {l'} {c} {k' = k'} {g = g} e p = record { entry = λ i b. by i b (e.entry (g i) (p.below i b)) }
  where
    by : (i : ℕ) → i < k' → Entry m c l (g i) → Entry m c l' i
    by i b o =
        let s = p.same i b in
        record {
          used = rw s o.used;
          html = rw s o.html;
          name = rw s o.name;
          lone = rw s (λ n. record { none = λ j h. rw (p.same j (omega arith), s) ((o.lone n).none (g j) (p.rises j i h b)) });
        }

-- where entry i stood before entry j left
pub skip : ℕ → ℕ → ℕ
skip j i = cond (ltb i j) i (suc i)

module _ (j i : ℕ) where
  pub skip_low : i < j → skip j i ≡ i
  unfolding skip
  skip_low h = rw (lt-ltb i j h)

  pub skip_high : j ≤ i → skip j i ≡ suc i
  unfolding skip
  skip_high h = rw (le-ltb i j h)

  -- it stood there, or one further
  skip_near : (i ≤ skip j i) × (skip j i ≤ suc i)
  skip_near = by (dec_lt i j)
    where
      by : Dec (i < j) → (i ≤ skip j i) × (skip j i ≤ suc i)
      by (yes h) = rw (skip_low h) (omega arith, omega arith)
      by (no h) = rw (skip_high (omega arith)) (omega arith, omega arith)

skip_rises : (j i n : ℕ) → i < n → skip j i < skip j n
skip_rises j i n h = by (dec_lt i j) (dec_lt n j)
  where
    by : Dec (i < j) → Dec (n < j) → skip j i < skip j n
    by (yes a) d = omega (arith, skip_low j i a, skip_near j n)
    by (no a) (yes b) = absurd (omega arith)
    by (no a) (no b) = omega (arith, skip_high j i (omega arith), skip_high j n (omega arith))

module _ (l : List ℕ) (j : ℕ) (h : j < length l) where
  pub without_at : (i : ℕ) → at (take j l ++ drop (j + 1) l) i ≡ at l (skip j i)
  without_at i = by (dec_lt i j)
    where
      len : length (take j l) ≡ j
      len = length-take-le j l (omega arith)

      by : Dec (i < j) → at (take j l ++ drop (j + 1) l) i ≡ at l (skip j i)
      by (yes a) = rw (skip_low j i a) (get_or-append (take j l) (drop (j + 1) l) 0 i (omega (arith, len)) ∙ get_or-take j l i 0 a)
      by (no a) =
          let e : length (take j l) + (i - j) ≡ i = omega (arith, len) in
          let g : (j + 1) + (i - j) ≡ suc i = omega arith in
          rw (skip_high j i (omega arith))
          (ap (λ (n : ℕ). at (take j l ++ drop (j + 1) l) n) (sym e) ∙ get_or-append-add (take j l) (drop (j + 1) l) (i - j) 0 ∙ get_or-drop (j + 1) l (i - j) 0 ∙ ap (λ (n : ℕ). at l n) g)

  pub without_picks : Picks l (take j l ++ drop (j + 1) l) (length l) (length l - 1) (skip j)
  without_picks =
      record {
        same = λ i b. without_at i;
        below = λ i b. omega (arith, skip_near j i);
        rises = λ i n a b. skip_rises j i n a;
      }

module _ (p : Places) (w : Whole p) (j : ℕ) (h : j < p.size) where
  pub without_whole : Whole (without p j)
  unfolding without
  without_whole = record { all = simp (length-append, length-take, length-drop) (omega (arith, w.all)) }

  pub entries_without : {m : List ℕ} {c : ℕ} → Entries m c p.held p.size → Entries m c (without p j).held (without p j).size
  unfolding without
  entries_without e = let a = w.all in rw a (entries_picked (rw a at e) (without_picks p.held j (omega arith)))

-- ---- an entry that comes in

-- n is an HTML element in use with a formatting name, and no entry
pub record New (m : List ℕ) (c : ℕ) (l : List ℕ) (n : ℕ) : Type 0 where
  pub used : (0 < n) × (n ≤ c)
  pub html : (field m n KIND ≡ ELEMENT) × (field m n SPACE ≡ space.html)
  pub name : is_in Formatting space.html (field m n NAME) ≡ true
  pub absent : (i : ℕ) → i < length l → at l i ≢ n

-- as the last
pub entries_more : {m l : List ℕ} {c k n : ℕ} → Entries m c l k → k ≡ length l → New m c l n → Entries m c (l ++ n ∷ []) (k + 1)
entries_more {m} {l} {c} {k} {n} e h w = record { entry = λ i b. by i b (dec_lt i k) }
  where
    by : (i : ℕ) → i < k + 1 → Dec (i < k) → Entry m c (l ++ n ∷ []) i
    by i b (yes a) = entry_front (e.entry i a) (front_more l n (suc i) (omega arith))
    by i b (no a) =
        let s : at (l ++ n ∷ []) i ≡ n = get_or_at l n [] 0 i (omega arith) in
        record {
          used = λ y. rw s w.used;
          html = λ y. rw s w.html;
          name = λ y. rw s w.name;
          lone = λ y. record { none = λ j g. rw (s, (front_more l n (suc j) (omega arith)).same j (omega arith)) (w.absent j (omega arith)) };
        }

-- in the place of entry j
pub entries_swapped : {m l : List ℕ} {c k n : ℕ} (j : ℕ) → Entries m c l k → k ≡ length l → New m c l n → Entries m c (set l j n) k
entries_swapped {m} {l} {c} {k} {n} j e h w = record { entry = λ i b. by i b (ℕ_discrete i j) }
  where
    other : (i : ℕ) → i ≢ j → at (set l j n) i ≡ at l i
    other i d = get_or-set_other l j i n 0 d

    here : j < k → at (set l j n) j ≡ n
    here b = get_or-set_same l j n 0 (omega arith)

    apart : (i a : ℕ) → i < k → a < i → i ≢ j → at l i ≢ MARKER → Entry m c l i → Dec (a ≡ j) → at (set l j n) a ≢ at l i
    apart i a b g d y o (yes z) = rw (z, here (omega arith)) (λ q. w.absent i (omega arith) (sym q))
    apart i a b g d y o (no z) = rw (other a z) ((o.lone y).none a g)

    by : (i : ℕ) → i < k → Dec (i ≡ j) → Entry m c (set l j n) i
    by i b (yes z) =
        let s : at (set l j n) i ≡ n = rw z (here (omega arith)) in
        record {
          used = λ y. rw s w.used;
          html = λ y. rw s w.html;
          name = λ y. rw s w.name;
          lone = λ y. record { none = λ a g. rw (s, other a (omega arith)) (w.absent a (omega arith)) };
        }
    by i b (no z) =
        let s = other i z in
        let o = e.entry i b in
        record {
          used = rw s o.used;
          html = rw s o.html;
          name = rw s o.name;
          lone = rw s (λ y. record { none = λ a g. rw s (apart i a b g z y o (ℕ_discrete a j)) });
        }

pub swapped_whole : (p : Places) → Whole p → (j n : ℕ) → Whole (swapped p j n)
unfolding swapped
swapped_whole p w j n = record { all = w.all ∙ sym (length-set p.held j n) }
