-- Records (`specs/Written.antt`): `item_at` reads what is so written, wherever it stands, as that call with those arguments.
-- Assumes nothing.
use Rattle.std.proofs.Common.{ℕ, zero, suc, ◌+◌, ◌-◌, ◌*◌, ◌≤◌, ◌<◌, max, ◌≡◌, refl, sym, ap, ◌∙◌, ◌≢◌, ◌⊎◌, inl, inr, List, [], ◌∷◌, ◌++◌, append_assoc, arith, lt-ltb, le-ltb, eq-eqb, ne_eqb, length, get_or, drop, length-append, get_or-drop, drop-drop, Some, Ok, Err}
use Rattle.std.proofs.Math.Decide.{ℕ_discrete}
use Rattle.records.specs.declared.refusal.Refusal.TheVariants as refusal
use Rattle.records.specs.Number.{number_at}
use Rattle.records.specs.Pair.{value_at, next_at, name_at, text_at, pair_next}
use Rattle.records.specs.Record.{asked, skip_at, count_of, pairs_of, number_if, pairs_at, item_at}
use Rattle.records.specs.Written.{encoded, encoded_all, flat, pair_numbers, record_of, Low, Written, Stands}
use Rattle.records.proofs.Laws.{skip_none, arguments_all, pairs_all}
use Rattle.records.proofs.Numbers.{number_stands}

-- ---- what stands in parts

stands_first : {s : List ℕ} {i : ℕ} (xs ys : List ℕ) → Stands s i (xs ++ ys) → Stands s i xs
stands_first xs ys w =
    record {
      before = w.before;
      after = ys ++ w.after;
      whole = w.whole ∙ ap (λ (z : List ℕ). w.before ++ z) (append_assoc xs ys w.after);
      place = w.place;
    }

pub stands_rest : {s : List ℕ} {i : ℕ} (xs ys : List ℕ) → Stands s i (xs ++ ys) → Stands s (i + length xs) ys
stands_rest xs ys w =
    record {
      before = w.before ++ xs;
      after = w.after;
      whole =
          w.whole
          ∙ ap (λ (z : List ℕ). w.before ++ z) (append_assoc xs ys w.after)
          ∙ sym (append_assoc w.before xs (ys ++ w.after));
      place = length-append w.before xs ∙ ap (λ (n : ℕ). n + length xs) w.place;
    }

module _ (s : List ℕ) where
  -- a number that stands there is read, and the rest stands after it
  read_one : (i v : ℕ) (ys : List ℕ) → v ≤ 65535 → Stands s i (encoded v ++ ys) → number_at s i ≡ Some (v, i + length (encoded v))
  read_one i v ys h w = number_stands s i v h (stands_first (encoded v) ys w)

  -- so are numbers one after the other
  read_all : (i : ℕ) (xs : List ℕ) → Low xs → Stands s i (encoded_all xs) → skip_at s i (length xs) ≡ Some (i + length (encoded_all xs))
  unfolding skip_at encoded_all
  read_all i [] h w = let e : i + 0 ≡ i = omega arith in rw e
  read_all i (x ∷ xs) h w =
      let e : i + length (encoded x) + length (encoded_all xs) ≡ i + length (encoded x ++ encoded_all xs) = omega (arith, length-append (encoded x) (encoded_all xs)) in
      rw (read_one i x (encoded_all xs) h.0 w)
      (read_all (i + length (encoded x)) xs h.1 (stands_rest (encoded x) (encoded_all xs) w) ∙ rw e)

-- ---- a call number that is not known

pub item_unknown : (s : List ℕ) (i call : ℕ) → call ≤ 65535 → (call ≡ 0) ⊎ (18 < call) → Stands s i (encoded call) → item_at s i ≡ Err refusal.Unknown
unfolding item_at
item_unknown s i call h (inl e) w = rw (number_stands s i call h w, eq-eqb call 0 e)
item_unknown s i call h (inr e) w = rw (number_stands s i call h w, ne_eqb call 0 (λ d. omega arith), lt-ltb 18 call e)

-- ---- a pair

module _ (s : List ℕ) (i name text : ℕ) (ys : List ℕ) (a : name ≤ 65535) (b : text ≤ 65535) (w : Stands s i (encoded name ++ (encoded text ++ ys))) where
  second_read : number_at s (i + length (encoded name)) ≡ Some (text, i + length (encoded name) + length (encoded text))
  second_read = read_one s (i + length (encoded name)) text ys b (stands_rest (encoded name) (encoded text ++ ys) w)

  -- a pair that stands there is read, and what follows it starts right after it
  pub pair_there : (name_at s i ≡ name) × (text_at s i ≡ text) × (pair_next s i ≡ i + length (encoded name) + length (encoded text))
  unfolding name_at text_at pair_next value_at next_at
  pair_there = rw (read_one s i name (encoded text ++ ys) a w, second_read) (refl, refl, refl)

-- ---- arguments

-- the greatest of some numbers
highest : List ℕ → ℕ
highest [] = 0
highest (x ∷ xs) = max x (highest xs)

at_most : (xs : List ℕ) (n : ℕ) → get_or xs n 0 ≤ highest xs
unfolding highest
at_most [] n = omega arith
at_most (x ∷ xs) zero = omega arith
at_most (x ∷ xs) (suc n) = omega (arith, at_most xs n)

-- no call takes more than three numbers
pub count_few : (call : ℕ) → count_of call ≤ 3
unfolding count_of highest
count_few call = at_most (0 ∷ 3 ∷ 1 ∷ 2 ∷ 1 ∷ 0 ∷ 0 ∷ 0 ∷ 1 ∷ 0 ∷ 1 ∷ 0 ∷ 0 ∷ 2 ∷ 0 ∷ 1 ∷ 1 ∷ 0 ∷ 1 ∷ []) call

-- how many bytes the first number takes, 0 if there is none
width : List ℕ → ℕ
width [] = 0
width (x ∷ xs) = length (encoded x)

-- the k-th of n numbers, where xs are the ones from it on, and ys follow them
record Arg (s : List ℕ) (i k n : ℕ) (xs ys : List ℕ) : Type 0 where
  is : number_if s i k n ≡ Some (get_or xs 0 0, i + width xs)
  low : Low (drop 1 xs)
  left : length (drop 1 xs) ≡ n - (k + 1)
  bytes : width xs + length (encoded_all (drop 1 xs)) ≡ length (encoded_all xs)
  stands : Stands s (i + width xs) (encoded_all (drop 1 xs) ++ ys)

arg : (s : List ℕ) (i k n : ℕ) (xs ys : List ℕ) → Low xs → length xs ≡ n - k → Stands s i (encoded_all xs ++ ys) → Arg s i k n xs ys
unfolding number_if encoded_all width
arg s i k n [] ys h e w =
    let z : i + 0 ≡ i = omega arith in
    record { is = rw (le-ltb k n (omega arith), z); low = tt; left = omega arith; bytes = omega arith; stands = rw z w }
arg s i k n (x ∷ xs) ys h e w =
    let v : Stands s i (encoded x ++ (encoded_all xs ++ ys)) = rw (append_assoc (encoded x) (encoded_all xs) ys) at w in
    record {
      is = rw (lt-ltb k n (omega arith)) (read_one s i x (encoded_all xs ++ ys) h.0 v);
      low = h.1;
      left = omega arith;
      bytes = sym (length-append (encoded x) (encoded_all xs));
      stands = stands_rest (encoded x) (encoded_all xs ++ ys) v;
    }

-- ---- pairs

-- as many names and text numbers as pairs, twice
flat_length : (ps : List (ℕ × ℕ)) → length (flat ps) ≡ length ps * 2
unfolding flat
flat_length [] = refl
flat_length (p ∷ ps) = omega (arith, flat_length ps)

-- the pairs of a call start at `from`, and end where the record does
record Pairs (s : List ℕ) (i call a b c : ℕ) (ps : List (ℕ × ℕ)) (from : ℕ) : Type 0 where
  is : pairs_at s i call a b c ≡ Ok (asked call a b c from (length ps), from + length (encoded_all (flat ps)))
  stands : Stands s from (encoded_all (flat ps))
  ends : from + length (encoded_all (flat ps)) ≡ i + length (encoded_all (pair_numbers call ps))

module _ (s : List ℕ) (i call a b c : ℕ) (ps : List (ℕ × ℕ)) (low : Low (length ps ∷ flat ps)) where
  -- a call that takes none
  no_pairs_lem : pairs_of call ≡ 0 → ps ≡ [] → Stands s i (encoded_all (pair_numbers call ps)) → Pairs s i call a b c ps i
  unfolding pair_numbers encoded_all flat number_if
  no_pairs_lem e z w =
      let o : i + 0 ≡ i = omega arith in
      rw z
      (record {
        is = sym (pairs_all s i call a b c {n = pairs_of call} {k = 0} {p = i} {next = i} refl refl (rw e) refl (sym (skip_none s i 0 refl))) ∙ rw o;
        stands = rw (eq-eqb (pairs_of call) 0 e) at w;
        ends = rw (eq-eqb (pairs_of call) 0 e);
      })

  some_pairs : pairs_of call ≢ 0 → Stands s i (encoded_all (pair_numbers call ps)) → Pairs s i call a b c ps (i + length (encoded (length ps)))
  unfolding pair_numbers encoded_all number_if
  some_pairs e w =
      let v : Stands s i (encoded (length ps) ++ encoded_all (flat ps)) = rw (ne_eqb (pairs_of call) 0 e) at w in
      record {
        is =
            sym (pairs_all s i call a b c {n = pairs_of call} {k = length ps} {p = i + length (encoded (length ps))} refl refl
            (rw (lt-ltb 0 (pairs_of call) (omega arith)) (read_one s i (length ps) (encoded_all (flat ps)) low.0 v))
            refl
            (rw (← flat_length ps) (read_all s (i + length (encoded (length ps))) (flat ps) low.1 (stands_rest (encoded (length ps)) (encoded_all (flat ps)) v))));
        stands = stands_rest (encoded (length ps)) (encoded_all (flat ps)) v;
        ends = rw (ne_eqb (pairs_of call) 0 e) (omega (arith, length-append (encoded (length ps)) (encoded_all (flat ps))));
      }

  pairs_there : (pairs_of call ≡ 0 → ps ≡ []) → Stands s i (encoded_all (pair_numbers call ps)) → (from : ℕ) × Pairs s i call a b c ps from
  pairs_there f w = by (ℕ_discrete (pairs_of call) 0)
    where
      by : Dec (pairs_of call ≡ 0) → (from : ℕ) × Pairs s i call a b c ps from
      by (yes e) = (i, no_pairs_lem e (f e) w)
      by (no e) = (i + length (encoded (length ps)), some_pairs e w)

-- ---- a call

-- what is read there: the call with its arguments, 0 where it takes fewer, and its pairs, which stand at `from` up to the record's end
pub record Called (s : List ℕ) (i call : ℕ) (args : List ℕ) (ps : List (ℕ × ℕ)) (from : ℕ) : Type 0 where
  pub is : item_at s i ≡ Ok (asked call (get_or args 0 0) (get_or args 1 0) (get_or args 2 0) from (length ps), i + length (record_of call args ps))
  pub stands : Stands s from (encoded_all (flat ps))
  pub ends : from + length (encoded_all (flat ps)) ≡ i + length (record_of call args ps)

empty : (xs : List ℕ) → length xs ≡ 0 → xs ≡ []
empty [] e = refl
empty (x ∷ xs) e = absurd (omega arith)

no_bytes : (xs : List ℕ) → xs ≡ [] → length (encoded_all xs) ≡ 0
unfolding encoded_all
no_bytes xs e = rw e

last_stands : {s : List ℕ} {i : ℕ} (xs ys : List ℕ) → xs ≡ [] → Stands s i (encoded_all xs ++ ys) → Stands s i ys
unfolding encoded_all
last_stands xs ys e w = rw e at w

-- a record that stands there is read as its call
pub item_call : (s : List ℕ) (i call : ℕ) (args : List ℕ) (ps : List (ℕ × ℕ)) → Written call args ps → Stands s i (record_of call args ps)
    → (from : ℕ) × Called s i call args ps from
unfolding record_of item_at
item_call s i call args ps t w = (
  pairs.0,
  record {
    is =
        rw (read_one s i call _ (omega (arith, t.known)) w, ne_eqb call 0 (λ d. omega (arith, t.known)), le-ltb 18 call t.known.1, ← second_at, ← third_at, ← over)
        (sym (arguments_all s p call refl refl one.is refl two.is refl three.is (sym pairs.1.is)));
    stands = pairs.1.stands;
    ends = over;
  },
)
  where
    n : ℕ
    n = count_of call

    ys : List ℕ
    ys = encoded_all (pair_numbers call ps)

    p : ℕ
    p = i + length (encoded call)

    one : Arg s p 0 n args ys
    one = arg s p 0 n args ys t.small (omega (arith, t.count)) (stands_rest (encoded call) (encoded_all args ++ ys) w)

    two : Arg s (p + width args) 1 n (drop 1 args) ys
    two = arg s (p + width args) 1 n (drop 1 args) ys one.low one.left one.stands

    three : Arg s (p + width args + width (drop 1 args)) 2 n (drop 1 (drop 1 args)) ys
    three = arg s (p + width args + width (drop 1 args)) 2 n (drop 1 (drop 1 args)) ys two.low two.left two.stands

    none : drop 1 (drop 1 (drop 1 args)) ≡ []
    none = empty (drop 1 (drop 1 (drop 1 args))) (omega (arith, three.left, count_few call))

    q : ℕ
    q = p + width args + width (drop 1 args) + width (drop 1 (drop 1 args))

    left : Stands s q ys
    left = last_stands (drop 1 (drop 1 (drop 1 args))) ys none three.stands

    pairs : (from : ℕ) × Pairs s q call (get_or args 0 0) (get_or (drop 1 args) 0 0) (get_or (drop 1 (drop 1 args)) 0 0) ps from
    pairs = pairs_there s q call (get_or args 0 0) (get_or (drop 1 args) 0 0) (get_or (drop 1 (drop 1 args)) 0 0) ps (t.few, t.smalls) t.pairs left

    second_at : get_or (drop 1 args) 0 0 ≡ get_or args 1 0
    second_at = get_or-drop 1 args 0 0

    third_at : get_or (drop 1 (drop 1 args)) 0 0 ≡ get_or args 2 0
    third_at = ap (λ (xs : List ℕ). get_or xs 0 0) (drop-drop 1 1 args) ∙ get_or-drop 2 args 0 0

    over : pairs.0 + length (encoded_all (flat ps)) ≡ i + length (encoded call ++ (encoded_all args ++ ys))
    over =
        omega (
          arith,
          pairs.1.ends,
          one.bytes,
          two.bytes,
          three.bytes,
          no_bytes (drop 1 (drop 1 (drop 1 args))) none,
          length-append (encoded call) (encoded_all args ++ ys),
          length-append (encoded_all args) ys,
        )
