-- Reading after writing: the laws of `load`, `store` and `link` by which every other proof goes, once for all regions.
-- A premise on fields is an equation of a test, which `simp` closes by `refl` where the region and the fields are known.
-- Assumes nothing.
use Rattle.std.proofs.Common.{ℕ, zero, suc, ◌+◌, ◌*◌, ◌/◌, ◌%◌, ◌<◌, ◌≤◌, min, ◌≡◌, refl, sym, ◌∙◌, Bool, true, false, cond, List, length, set, length-set, get_or-set_same, get_or-set_other, eqb, ltb, lt-ltb, le-ltb, eq-eqb, ne_eqb, ltb-true, arith}
use Rattle.std.proofs.lemmas.Bool.{eqb-false}
use Rattle.lent.specs.Mem.{Region, NODES, PIECES, PAIRS, width, most, slots, inside, place, get16, put16, load, store, link}

-- ---- two bytes

pub length_put16 : (m : List ℕ) (i v : ℕ) → length (put16 m i v) ≡ length m
unfolding put16
length_put16 m i v = simp length-set

pub get16_same : (m : List ℕ) (i v : ℕ) → i + 1 < length m → get16 (put16 m i v) i ≡ v
unfolding get16 put16
get16_same m i v h =
    let o : i ≡ i + 1 → ⊥ = λ e. omega arith in
    let p : i < length m = omega arith in
    let q : i + 1 < length (set m i (v % 256)) = simp length-set h in
    simp (get_or-set_same, get_or-set_other) (omega arith)

-- two different numbers of two bytes each do not touch
pub get16_other : (m : List ℕ) (i j v : ℕ) → (i ≡ j → ⊥) → get16 (put16 m (i * 2) v) (j * 2) ≡ get16 m (j * 2)
unfolding get16 put16
get16_other m i j v h =
    let a : j * 2 ≡ i * 2 → ⊥ = λ e. h (omega arith) in
    let b : j * 2 ≡ i * 2 + 1 → ⊥ = λ e. omega arith in
    let d : j * 2 + 1 ≡ i * 2 → ⊥ = λ e. omega arith in
    let e : j * 2 + 1 ≡ i * 2 + 1 → ⊥ = λ z. h (omega arith) in
    simp get_or-set_other

-- ---- slots: a slot inside lies wholly in the bytes, and two fields are apart if their slots or their numbers differ

pub place_fits : (r : Region) (m : List ℕ) (n f : ℕ) → inside r m n ≡ true → ltb f (width r) ≡ true → place r n f + 1 < length m
unfolding inside slots place
place_fits NODES m n f h t = omega (arith, ltb-true f 16 t, ltb-true n (min (length m / 32) 4097) h)
place_fits PIECES m n f h t = omega (arith, ltb-true f 2 t, ltb-true n (min (length m / 4) 8193) h)
place_fits PAIRS m n f h t = omega (arith, ltb-true f 2 t, ltb-true n (min (length m / 4) 4096) h)

apart : (r : Region) (n f k g : ℕ) → ltb f (width r) ≡ true → ltb g (width r) ≡ true → n * width r + f ≡ k * width r + g → (n ≡ k) × (f ≡ g)
apart NODES n f k g t u e = let p = ltb-true f 16 t in let q = ltb-true g 16 u in (omega (arith, e), omega (arith, e))
apart PIECES n f k g t u e = let p = ltb-true f 2 t in let q = ltb-true g 2 u in (omega (arith, e), omega (arith, e))
apart PAIRS n f k g t u e = let p = ltb-true f 2 t in let q = ltb-true g 2 u in (omega (arith, e), omega (arith, e))

pub load_in : (r : Region) (m : List ℕ) (n f : ℕ) → inside r m n ≡ true → load r m n f ≡ get16 m (place r n f)
unfolding load
load_in r m n f h = rw h

pub load_out : (r : Region) (m : List ℕ) (n f : ℕ) → inside r m n ≡ false → load r m n f ≡ 0
unfolding load
load_out r m n f h = rw h

pub store_in : (r : Region) (m : List ℕ) (n f v : ℕ) → inside r m n ≡ true → store r m n f v ≡ put16 m (place r n f) v
unfolding store
store_in r m n f v h = rw h

pub store_out : (r : Region) (m : List ℕ) (n f v : ℕ) → inside r m n ≡ false → store r m n f v ≡ m
unfolding store
store_out r m n f v h = rw h

-- a field of a slot that lies in the lent bytes, whatever the width
pub fits : (l n w f m : ℕ) → f < w → n < min (l / (w * 2)) m → (n * w + f) * 2 + 1 < l
fits l n w f m h k = grind arith

-- the same, from the test that the code makes: k is how many slots there are
module _ (r : Region) (m : List ℕ) (n f : ℕ) {k : ℕ} (e : k ≡ min (length m / (width r * 2)) (most r)) where
  below : n < k → inside r m n ≡ true
  unfolding inside slots
  below h = lt-ltb n (min (length m / (width r * 2)) (most r)) (rw e at h)

  past : k ≤ n → inside r m n ≡ false
  unfolding inside slots
  past h = le-ltb n (min (length m / (width r * 2)) (most r)) (rw e at h)

  pub load_below : n < k → load r m n f ≡ get16 m ((n * width r + f) * 2)
  unfolding place
  load_below h = load_in r m n f (below h)

  pub load_past : k ≤ n → load r m n f ≡ 0
  load_past h = load_out r m n f (past h)

  pub store_below : (v : ℕ) → n < k → store r m n f v ≡ put16 m ((n * width r + f) * 2) v
  unfolding place
  store_below v h = store_in r m n f v (below h)

  pub store_past : (v : ℕ) → k ≤ n → store r m n f v ≡ m
  store_past v h = store_out r m n f v (past h)

-- a store keeps the length, and so which slots lie in the bytes
pub length_store : (r : Region) (m : List ℕ) (n f v : ℕ) → length (store r m n f v) ≡ length m
unfolding store
length_store r m n f v = by (inside r m n)
  where
    by : (b : Bool) → length (cond b (put16 m (place r n f) v) m) ≡ length m
    by true = length_put16 m _ v
    by false = refl

pub inside_store : (r : Region) (m : List ℕ) (n f v k : ℕ) → inside r (store r m n f v) k ≡ inside r m k
unfolding inside slots
inside_store r m n f v k = rw length_store

-- ---- load after store

pub load_same : (r : Region) (m : List ℕ) (n f v : ℕ) → inside r m n ≡ true → ltb f (width r) ≡ true → load r (store r m n f v) n f ≡ v
load_same r m n f v h t =
    rw (load_in r (store r m n f v) n f (inside_store r m n f v n ∙ h), store_in r m n f v h)
    (get16_same m (place r n f) v (place_fits r m n f h t))

load_else : (r : Region) (m : List ℕ) (n f v k g : ℕ) → (n * width r + f ≡ k * width r + g → ⊥) → load r (store r m n f v) k g ≡ load r m k g
unfolding place
load_else r m n f v k g h = by (inside r m n) refl
  where
    on : inside r m n ≡ true → (b : Bool) → inside r m k ≡ b → load r (store r m n f v) k g ≡ load r m k g
    on e true i =
        rw (load_in r (store r m n f v) k g (inside_store r m n f v k ∙ i), load_in r m k g i, store_in r m n f v e)
        (get16_other m (n * width r + f) (k * width r + g) v h)
    on e false i = load_out r (store r m n f v) k g (inside_store r m n f v k ∙ i) ∙ sym (load_out r m k g i)

    by : (b : Bool) → inside r m n ≡ b → load r (store r m n f v) k g ≡ load r m k g
    by false e = rw (store_out r m n f v e)
    by true e = on e (inside r m k) refl

-- another slot
pub load_slot : (r : Region) (m : List ℕ) (n f v k g : ℕ) → (k ≡ n → ⊥) → ltb f (width r) ≡ true → ltb g (width r) ≡ true → load r (store r m n f v) k g ≡ load r m k g
load_slot r m n f v k g h t u = load_else r m n f v k g (λ e. h (sym (apart r n f k g t u e).0))

-- the same, with the inequality the other way round
pub load_slot' : (r : Region) (m : List ℕ) (n f v k g : ℕ) → (n ≡ k → ⊥) → ltb f (width r) ≡ true → ltb g (width r) ≡ true → load r (store r m n f v) k g ≡ load r m k g
load_slot' r m n f v k g h t u = load_slot r m n f v k g (λ e. h (sym e)) t u

-- another field
pub load_field : (r : Region) (m : List ℕ) (n f v k g : ℕ) → ltb f (width r) ≡ true → ltb g (width r) ≡ true → eqb f g ≡ false → load r (store r m n f v) k g ≡ load r m k g
load_field r m n f v k g t u d = load_else r m n f v k g (λ e. eqb-false f g d (apart r n f k g t u e).1)

pub ruleset reads = (load_field, load_same, load_slot, load_slot', inside_store)

-- ---- `link m n f p g v`, which stores to field f of p where n is none, and else to field g of n

pub link_none : (m : List ℕ) (n f p g v : ℕ) → n ≡ 0 → link m n f p g v ≡ store NODES m p f v
unfolding link
link_none m n f p g v h = rw (eq-eqb n 0 h)

pub link_some : (m : List ℕ) (n f p g v : ℕ) → (n ≡ 0 → ⊥) → link m n f p g v ≡ store NODES m n g v
unfolding link
link_some m n f p g v h = rw (ne_eqb n 0 h)

-- what holds after either store holds after the link
pub link_by : (P : List ℕ → Type 0) (m : List ℕ) (n f p g v : ℕ) → (n ≡ 0 → P (store NODES m p f v)) → ((n ≡ 0 → ⊥) → P (store NODES m n g v)) → P (link m n f p g v)
link_by P m zero f p g v h k = rw (link_none m zero f p g v refl) (h refl)
link_by P m (suc n) f p g v h k = let q : suc n ≡ 0 → ⊥ = λ e. omega arith in rw (link_some m (suc n) f p g v q) (k q)

pub length_link : (m : List ℕ) (n f p g v : ℕ) → length (link m n f p g v) ≡ length m
length_link m n f p g v = link_by (λ r. length r ≡ length m) m n f p g v (λ e. length_store NODES m p f v) (λ e. length_store NODES m n g v)

pub inside_link : (m : List ℕ) (n f p g v k : ℕ) → inside NODES (link m n f p g v) k ≡ inside NODES m k
inside_link m n f p g v k = link_by (λ r. inside NODES r k ≡ inside NODES m k) m n f p g v (λ e. simp reads) (λ e. simp reads)

pub link_field : (m : List ℕ) (n f p g v k h : ℕ) → ltb f 16 ≡ true → ltb g 16 ≡ true → ltb h 16 ≡ true → eqb f h ≡ false → eqb g h ≡ false → load NODES (link m n f p g v) k h ≡ load NODES m k h
link_field m n f p g v k h t u w d e = link_by (λ r. load NODES r k h ≡ load NODES m k h) m n f p g v (λ z. simp (reads, t, w, d)) (λ z. simp (reads, u, w, e))

-- a node that is not n keeps its field g, and one that is not p its field f
pub link_node : (m : List ℕ) (n f p g v k : ℕ) → (k ≡ n → ⊥) → ltb f 16 ≡ true → ltb g 16 ≡ true → eqb f g ≡ false → load NODES (link m n f p g v) k g ≡ load NODES m k g
link_node m n f p g v k q t u d = link_by (λ r. load NODES r k g ≡ load NODES m k g) m n f p g v (λ z. simp (reads, t, u, d)) (λ z. simp (reads, t, u, d))

pub link_other : (m : List ℕ) (n f p g v k : ℕ) → (k ≡ p → ⊥) → ltb f 16 ≡ true → ltb g 16 ≡ true → eqb g f ≡ false → load NODES (link m n f p g v) k f ≡ load NODES m k f
link_other m n f p g v k q t u d = link_by (λ r. load NODES r k f ≡ load NODES m k f) m n f p g v (λ z. simp (reads, t, u, d)) (λ z. simp (reads, t, u, d))

pub link_node' : (m : List ℕ) (n f p g v k : ℕ) → (n ≡ k → ⊥) → ltb f 16 ≡ true → ltb g 16 ≡ true → eqb f g ≡ false → load NODES (link m n f p g v) k g ≡ load NODES m k g
link_node' m n f p g v k q t u d = link_node m n f p g v k (λ e. q (sym e)) t u d

pub link_other' : (m : List ℕ) (n f p g v k : ℕ) → (p ≡ k → ⊥) → ltb f 16 ≡ true → ltb g 16 ≡ true → eqb g f ≡ false → load NODES (link m n f p g v) k f ≡ load NODES m k f
link_other' m n f p g v k q t u d = link_other m n f p g v k (λ e. q (sym e)) t u d

pub ruleset links = (reads, inside_link, link_field, link_node, link_node', link_other, link_other')
