-- Numbers in unsigned LEB128 (`specs/Written.antt`): `number_at` reads what is so written, up to 65,535, wherever it stands, and reads
-- nothing else: so only the shortest form.
-- Assumes nothing.
use Rattle.std.proofs.Common.{ℕ, zero, suc, ◌+◌, ◌-◌, ◌*◌, ◌/◌, ◌%◌, ◌≤◌, ◌<◌, ◌≡◌, refl, sym, ap, ◌∙◌, ◌↔◌, Bool, true, false, List, [], ◌∷◌, ◌++◌, add-one, arith, ltb-true, ltb-false, lt-ltb, le-ltb, ne_eqb, length, get_or, take, drop, length-append, take-append-drop, drop-cons, get_or-append-add, length-take-le, ltb, eqb, Some, None}
use Rattle.std.proofs.Math.Decide.{dec_lt}
use Rattle.std.proofs.lemmas.Bool.{eqb-false}
use Rattle.records.specs.Number.{number_at, second, third, if_then_else, Read}
use Rattle.records.specs.Pair.{value_of, next_of}
use Rattle.records.specs.Written.{encoded_by, encoded, Stands}

-- ---- LEB128

by_one : (k v : ℕ) → v < 128 → encoded_by (suc k) v ≡ v ∷ []
unfolding encoded_by
by_one k v h = rw (lt-ltb v 128 h)

by_more : (k v : ℕ) → 128 ≤ v → encoded_by (suc k) v ≡ (v % 128 + 128) ∷ encoded_by k (v / 128)
unfolding encoded_by
by_more k v h = rw (le-ltb v 128 h)

-- enough is enough
by_same : (k l v : ℕ) → v < k → v < l → encoded_by k v ≡ encoded_by l v
by_same zero l v a b = absurd (omega arith)
by_same (suc k) zero v a b = absurd (omega arith)
by_same (suc k) (suc l) v a b = go (dec_lt v 128) (by_same k l (v / 128))
  where
    go : Dec (v < 128) → (v / 128 < k → v / 128 < l → encoded_by k (v / 128) ≡ encoded_by l (v / 128)) → encoded_by (suc k) v ≡ encoded_by (suc l) v
    go (yes h) r = by_one k v h ∙ sym (by_one l v h)
    go (no h) r =
        by_more k v (omega arith)
        ∙ ap (λ (x : List ℕ). (v % 128 + 128) ∷ x) (r (omega arith) (omega arith))
        ∙ sym (by_more l v (omega arith))

-- a number below 128 is its own byte
pub encoded_one : (v : ℕ) → v < 128 → encoded v ≡ v ∷ []
unfolding encoded
encoded_one v h = by_one v v h

-- any other has its low seven bits, with the high bit set, before the bytes of the rest
pub encoded_more : (v : ℕ) → 128 ≤ v → encoded v ≡ (v % 128 + 128) ∷ encoded (v / 128)
unfolding encoded
encoded_more v h =
    by_more v v h ∙ ap (λ (x : List ℕ). (v % 128 + 128) ∷ x) (by_same v (suc (v / 128)) (v / 128) (omega arith) (omega arith))

encoded_two : (v : ℕ) → 128 ≤ v → v < 16384 → encoded v ≡ (v % 128 + 128) ∷ (v / 128) ∷ []
encoded_two v h l = encoded_more v h ∙ ap (λ (x : List ℕ). (v % 128 + 128) ∷ x) (encoded_one (v / 128) (omega arith))

encoded_three : (v : ℕ) → 16384 ≤ v → v ≤ 65535 → encoded v ≡ (v % 128 + 128) ∷ (v / 128 % 128 + 128) ∷ (v / 128 / 128) ∷ []
encoded_three v h l = encoded_more v (omega arith) ∙ ap (λ (x : List ℕ). (v % 128 + 128) ∷ x) (encoded_two (v / 128) (omega arith) (omega arith))

-- ---- what stands where

byte : (b xs a : List ℕ) (j n : ℕ) → n ≡ length b + j → j < length xs → (n < length (b ++ (xs ++ a))) × (get_or (b ++ (xs ++ a)) n 0 ≡ get_or (xs ++ a) j 0)
byte b xs a j n e h = (omega (arith, length-append b (xs ++ a), length-append xs a), rw e (get_or-append-add b (xs ++ a) j 0))

-- ---- what is written is read

module _ (s : List ℕ) (i : ℕ) where
  read_one : (v : ℕ) → v < 128 → i < length s → get_or s i 0 ≡ v → number_at s i ≡ Some (v, i + 1)
  unfolding number_at
  read_one v h l e = rw (lt-ltb i (length s) l, e, lt-ltb v 128 h)

  read_two : (a b : ℕ) → a < 128 → 0 < b → b < 128 → i + 1 < length s → get_or s i 0 ≡ a + 128 → get_or s (i + 1) 0 ≡ b → number_at s i ≡ Some (a + b * 128, i + 2)
  unfolding number_at second
  read_two a b h z k l e g =
      let w : a + 128 - 128 ≡ a = omega arith in
      let n : i + 1 + 1 ≡ i + 2 = omega arith in
      rw (lt-ltb i (length s) (omega arith), e, le-ltb (a + 128) 128 (omega arith), lt-ltb (i + 1) (length s) l, g, ne_eqb b 0 (λ q. omega arith), lt-ltb b 128 k, w, n)

  read_three : (a b c : ℕ) → a < 128 → b < 128 → 0 < c → c ≤ 3 → i + 2 < length s → get_or s i 0 ≡ a + 128 → get_or s (i + 1) 0 ≡ b + 128 → get_or s (i + 2) 0 ≡ c
      → number_at s i ≡ Some (a + b * 128 + c * 16384, i + 3)
  unfolding number_at second third
  read_three a b c h k z t l e g o =
      let w : a + 128 - 128 ≡ a = omega arith in
      let x : b + 128 - 128 ≡ b = omega arith in
      let n : i + 1 + 1 ≡ i + 2 = omega arith in
      let y : i + 2 + 1 ≡ i + 3 = omega arith in
      rw (
        lt-ltb i (length s) (omega arith),
        e,
        le-ltb (a + 128) 128 (omega arith),
        lt-ltb (i + 1) (length s) (omega arith),
        g,
        ne_eqb (b + 128) 0 (λ q. omega arith),
        le-ltb (b + 128) 128 (omega arith),
        n,
        lt-ltb (i + 2) (length s) l,
        o,
        ne_eqb c 0 (λ q. omega arith),
        le-ltb 3 c (omega arith),
        w,
        x,
        y,
      )

-- the bytes of a number up to 65,535, wherever they stand, are read as that number, and what follows starts right after them
pub number_there : (v : ℕ) → v ≤ 65535 → (before after : List ℕ)
    → number_at (before ++ (encoded v ++ after)) (length before) ≡ Some (v, length before + length (encoded v))
number_there v h b a = by (dec_lt v 128) (dec_lt v 16384)
  where
    one : v < 128 → number_at (b ++ ((v ∷ []) ++ a)) (length b) ≡ Some (v, length b + 1)
    one g = let t = byte b (v ∷ []) a 0 (length b) (omega arith) (omega arith) in read_one (b ++ ((v ∷ []) ++ a)) (length b) v g t.0 t.1

    two : 128 ≤ v → v < 16384 → number_at (b ++ (((v % 128 + 128) ∷ (v / 128) ∷ []) ++ a)) (length b) ≡ Some (v, length b + 2)
    two g k =
        let xs = (v % 128 + 128) ∷ (v / 128) ∷ [] in
        let t = byte b xs a 0 (length b) (omega arith) (omega arith) in
        let u = byte b xs a 1 (length b + 1) refl (omega arith) in
        let e : v % 128 + v / 128 * 128 ≡ v = omega arith in
        read_two (b ++ (xs ++ a)) (length b) (v % 128) (v / 128) (omega arith) (omega arith) (omega arith) u.0 t.1 u.1 ∙ rw e

    three : 16384 ≤ v → number_at (b ++ (((v % 128 + 128) ∷ (v / 128 % 128 + 128) ∷ (v / 128 / 128) ∷ []) ++ a)) (length b) ≡ Some (v, length b + 3)
    three g =
        let xs = (v % 128 + 128) ∷ (v / 128 % 128 + 128) ∷ (v / 128 / 128) ∷ [] in
        let t = byte b xs a 0 (length b) (omega arith) (omega arith) in
        let u = byte b xs a 1 (length b + 1) refl (omega arith) in
        let w = byte b xs a 2 (length b + 2) refl (omega arith) in
        let e : v % 128 + v / 128 % 128 * 128 + v / 128 / 128 * 16384 ≡ v = omega arith in
        read_three (b ++ (xs ++ a)) (length b) (v % 128) (v / 128 % 128) (v / 128 / 128) (omega arith) (omega arith) (omega arith) (omega arith) w.0 t.1 u.1 w.1 ∙ rw e

    by : Dec (v < 128) → Dec (v < 16384) → number_at (b ++ (encoded v ++ a)) (length b) ≡ Some (v, length b + length (encoded v))
    by (yes g) _ = rw (encoded_one v g) (one g)
    by (no g) (yes k) = rw (encoded_two v (omega arith) k) (two (omega arith) k)
    by (no g) (no k) = rw (encoded_three v (omega arith) h) (three (omega arith))

-- the same of any bytes in which it stands
pub number_stands : (s : List ℕ) (i v : ℕ) → v ≤ 65535 → Stands s i (encoded v) → number_at s i ≡ Some (v, i + length (encoded v))
number_stands s i v h t = rw (t.whole, ← t.place) (number_there v h t.before t.after)

-- ---- what is read was written

-- what a read finds, by the bytes from i on; every other is None
data Reads (s : List ℕ) (i : ℕ) : Read → Type 0 where
  one : i < length s → get_or s i 0 < 128 → Reads s i (Some (get_or s i 0, i + 1))
  two : i + 1 < length s → 128 ≤ get_or s i 0 → 0 < get_or s (i + 1) 0 → get_or s (i + 1) 0 < 128
      → Reads s i (Some (get_or s i 0 - 128 + get_or s (i + 1) 0 * 128, i + 1 + 1))
  three : i + 1 + 1 < length s → 128 ≤ get_or s i 0 → 128 ≤ get_or s (i + 1) 0 → 0 < get_or s (i + 1 + 1) 0 → get_or s (i + 1 + 1) 0 ≤ 3
      → Reads s i (Some (get_or s i 0 - 128 + (get_or s (i + 1) 0 - 128) * 128 + get_or s (i + 1 + 1) 0 * 16384, i + 1 + 1 + 1))
  bad : Reads s i None

module _ (s : List ℕ) (i : ℕ) where
  reads_third : 128 ≤ get_or s i 0 → 128 ≤ get_or s (i + 1) 0 → Reads s i (third s (i + 1 + 1) (get_or s i 0 - 128 + (get_or s (i + 1) 0 - 128) * 128))
  unfolding third
  reads_third h k = by (ltb (i + 1 + 1) (length s)) (eqb (get_or s (i + 1 + 1) 0) 0) (ltb 3 (get_or s (i + 1 + 1) 0)) refl refl refl
    where
      by : (a b c : Bool) → ltb (i + 1 + 1) (length s) ≡ a → eqb (get_or s (i + 1 + 1) 0) 0 ≡ b → ltb 3 (get_or s (i + 1 + 1) 0) ≡ c
          → Reads s i
          (if_then_else a
          (if_then_else b None
          (if_then_else c None (Some (get_or s i 0 - 128 + (get_or s (i + 1) 0 - 128) * 128 + get_or s (i + 1 + 1) 0 * 16384, i + 1 + 1 + 1))))
          None)
      by false b c e f g = bad
      by true true c e f g = bad
      by true false true e f g = bad
      by true false false e f g =
          let n = eqb-false (get_or s (i + 1 + 1) 0) 0 f in
          three (ltb-true (i + 1 + 1) (length s) e) h k (omega arith) (ltb-false 3 (get_or s (i + 1 + 1) 0) g)

  reads_second : 128 ≤ get_or s i 0 → Reads s i (second s (i + 1) (get_or s i 0 - 128))
  unfolding second
  reads_second h = by (ltb (i + 1) (length s)) (eqb (get_or s (i + 1) 0) 0) (ltb (get_or s (i + 1) 0) 128) refl refl refl
    where
      by : (a b c : Bool) → ltb (i + 1) (length s) ≡ a → eqb (get_or s (i + 1) 0) 0 ≡ b → ltb (get_or s (i + 1) 0) 128 ≡ c
          → Reads s i
          (if_then_else a
          (if_then_else b None
          (if_then_else c (Some (get_or s i 0 - 128 + get_or s (i + 1) 0 * 128, i + 1 + 1)) (third s (i + 1 + 1) (get_or s i 0 - 128 + (get_or s (i + 1) 0 - 128) * 128))))
          None)
      by false b c e f g = bad
      by true true c e f g = bad
      by true false true e f g =
          let n = eqb-false (get_or s (i + 1) 0) 0 f in two (ltb-true (i + 1) (length s) e) h (omega arith) (ltb-true (get_or s (i + 1) 0) 128 g)
      by true false false e f g = reads_third h (ltb-false (get_or s (i + 1) 0) 128 g)

  reads : Reads s i (number_at s i)
  unfolding number_at
  reads = by (ltb i (length s)) (ltb (get_or s i 0) 128) refl refl
    where
      by : (a b : Bool) → ltb i (length s) ≡ a → ltb (get_or s i 0) 128 ≡ b
          → Reads s i (if_then_else a (if_then_else b (Some (get_or s i 0, i + 1)) (second s (i + 1) (get_or s i 0 - 128))) None)
      by false b e f = bad
      by true true e f = one (ltb-true i (length s) e) (ltb-true (get_or s i 0) 128 f)
      by true false e f = reads_second (ltb-false (get_or s i 0) 128 f)

-- the bytes xs from i on, where s has them one by one
split : (s xs rest : List ℕ) (i : ℕ) → i ≤ length s → drop i s ≡ xs ++ rest → Stands s i xs
split s xs rest i h e =
    record { before = take i s; after = rest; whole = sym (take-append-drop i s) ∙ ap (λ (x : List ℕ). take i s ++ x) e; place = length-take-le i s h }

-- what a number read says of the bytes
pub record Back (s : List ℕ) (i v next : ℕ) : Type 0 where
  pub small : v ≤ 65535
  pub ends : next ≡ i + length (encoded v)
  pub past : i < next
  pub fits : next ≤ length s
  pub bytes : Stands s i (encoded v)

-- the same in a form to compute with
back_of : (s xs rest : List ℕ) (i v next : ℕ) → v ≤ 65535 → encoded v ≡ xs → 0 < length xs → next ≡ i + length xs → next ≤ length s → drop i s ≡ xs ++ rest
    → Back s i v next
back_of s xs rest i v next h e z n l d =
    record { small = h; ends = rw e n; past = omega arith; fits = l; bytes = rw e (split s xs rest i (omega arith) d) }

-- the low seven bits and the rest
parts : (a w v : ℕ) → a < 128 → a + w * 128 ≡ v → (v % 128 ≡ a) × (v / 128 ≡ w)
parts a w v h e = (omega arith, omega arith)

module _ (s : List ℕ) (i : ℕ) (small : (k : ℕ) → get_or s k 0 < 256) where
  next_byte : (k : ℕ) → k < length s → drop k s ≡ get_or s k 0 ∷ drop (k + 1) s
  next_byte k h = rw add-one (drop-cons s k 0 h)

  back : (r : Read) → Reads s i r → (v next : ℕ) → r ≡ Some (v, next) → Back s i v next
  back r bad v next e = absurd (let z : ◌≡◌ {A = ℕ} 0 1 = cc in omega arith)
  back r (one h k) v next e =
      let q : get_or s i 0 ≡ v = ap value_of e in
      let n : i + 1 ≡ next = ap (λ (r : Read). next_of r 0) e in
      back_of s (get_or s i 0 ∷ []) (drop (i + 1) s) i v next (omega arith) (rw (← q) (encoded_one (get_or s i 0) k)) (omega arith) (sym n) (omega arith) (next_byte i h)
  back r (two h k z l) v next e =
      let a = get_or s i 0 in
      let b = get_or s (i + 1) 0 in
      let q : a - 128 + b * 128 ≡ v = ap value_of e in
      let n : i + 1 + 1 ≡ next = ap (λ (r : Read). next_of r 0) e in
      let x = small i in
      let f : v % 128 + 128 ≡ a = omega arith in
      let g : v / 128 ≡ b = omega arith in
      back_of s (a ∷ b ∷ []) (drop (i + 1 + 1) s) i v next (omega arith) (encoded_two v (omega arith) (omega arith) ∙ rw (f, g)) (omega arith) (omega arith) (omega arith)
      (next_byte i (omega arith) ∙ ap (λ (y : List ℕ). a ∷ y) (next_byte (i + 1) h))
  back r (three h k l z t) v next e =
      let a = get_or s i 0 in
      let b = get_or s (i + 1) 0 in
      let c = get_or s (i + 1 + 1) 0 in
      let q : a - 128 + (b - 128) * 128 + c * 16384 ≡ v = ap value_of e in
      let n : i + 1 + 1 + 1 ≡ next = ap (λ (r : Read). next_of r 0) e in
      let x = small i in
      let y = small (i + 1) in
      let low = parts (a - 128) (b - 128 + c * 128) v (omega arith) (omega arith) in
      let high = parts (b - 128) c (v / 128) (omega arith) (omega (arith, low.1)) in
      let f : v % 128 + 128 ≡ a = omega (arith, low.0) in
      let g : v / 128 % 128 + 128 ≡ b = omega (arith, high.0) in
      let o : v / 128 / 128 ≡ c = high.1 in
      back_of s (a ∷ b ∷ c ∷ []) (drop (i + 1 + 1 + 1) s) i v next (omega arith)
      (encoded_three v (omega arith) (omega arith) ∙ rw (f, g, o)) (omega arith) (omega arith) (omega arith)
      (next_byte i (omega arith) ∙ ap (λ (y : List ℕ). a ∷ y) (next_byte (i + 1) (omega arith) ∙ ap (λ (y : List ℕ). b ∷ y) (next_byte (i + 1 + 1) h)))

  -- a number that is read is at most 65,535, and the bytes that were read are its own, in the shortest form
  pub number_back : (v next : ℕ) → number_at s i ≡ Some (v, next) → Back s i v next
  number_back v next e = back (number_at s i) (reads s i) v next e

  -- nothing is read exactly where the bytes of no number up to 65,535 stand
  pub number_bad : (number_at s i ≡ None) ↔ ((v : ℕ) → v ≤ 65535 → ¬ Stands s i (encoded v))
  number_bad = (λ e v h t. never v (sym (stands v h t) ∙ e), λ f. by (number_at s i) refl f)
    where
      stands : (v : ℕ) → v ≤ 65535 → Stands s i (encoded v) → number_at s i ≡ Some (v, i + length (encoded v))
      stands v h t = number_stands s i v h t

      never : (v : ℕ) {n : ℕ} → ◌≡◌ {A = Read} (Some (v, n)) None → ⊥
      never v e = let z : ◌≡◌ {A = ℕ} 0 1 = cc in omega arith

      by : (r : Read) → number_at s i ≡ r → ((v : ℕ) → v ≤ 65535 → ¬ Stands s i (encoded v)) → r ≡ None
      by None e f = refl
      by (Some (v, n)) e f = let t = number_back v n e in absurd (f v t.small t.bytes)
