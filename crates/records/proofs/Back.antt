-- What is read as a record was written so: where `item_at` gives a call, a record of that call stands, and where it gives an unknown
-- call, such a number stands. So it says that a record is cut short or badly written exactly where neither stands.
-- Assumes nothing.
use Rattle.std.proofs.Common.{ℕ, zero, suc, ◌+◌, ◌*◌, ◌≤◌, ◌<◌, ◌≡◌, refl, sym, ap, ◌∙◌, subst, ◌≢◌, ◌⊎◌, inl, inr, ◌↔◌, Bool, true, false, List, [], ◌∷◌, ◌++◌, append_assoc, arith, eqb-true, ltb-true, ltb-false, eq-eqb, ne_eqb, lt-ltb, length, get_or, take, drop, length-append, take-append-drop, length-take-le, drop_at, eqb, ltb, Option, Some, None, Ok, Err}
use Rattle.std.proofs.Math.Decide.{ℕ_discrete}
use Rattle.std.proofs.lemmas.Bool.{eqb-false}
use Rattle.records.specs.declared.Record.{Record}
use Rattle.records.specs.declared.refusal.Refusal.TheVariants as refusal
use Rattle.records.specs.Number.{number_at, Read}
use Rattle.records.specs.Record.{asked, skip_then, skip_at, and_then, end_then, pick, count_of, pairs_of, number_if, pairs_at, arguments_at, item_at, Item}
use Rattle.records.proofs.Past.{item_told}
use Rattle.records.specs.Written.{encoded, encoded_all, flat, pair_numbers, record_of, Low, Written, Stands}
use Rattle.records.proofs.Numbers.{Back, number_back}
use Rattle.records.proofs.Records.{count_few, item_unknown, item_call}

-- ---- what stands one after the other

stands_none : (s : List ℕ) (i : ℕ) → i ≤ length s → Stands s i []
stands_none s i h = record { before = take i s; after = drop i s; whole = sym (take-append-drop i s); place = length-take-le i s h }

stands_join : {s : List ℕ} {i : ℕ} (xs ys : List ℕ) → Stands s i xs → Stands s (i + length xs) ys → Stands s i (xs ++ ys)
stands_join {s} {i} xs ys v w =
    record {
      before = v.before;
      after = w.after;
      whole =
          v.whole
          ∙ ap (λ (z : List ℕ). v.before ++ (xs ++ z)) rest
          ∙ ap (λ (z : List ℕ). v.before ++ z) (sym (append_assoc xs ys w.after));
      place = v.place;
    }
  where
    front : s ≡ (v.before ++ xs) ++ v.after
    front = v.whole ∙ sym (append_assoc v.before xs v.after)

    rest : v.after ≡ ys ++ w.after
    rest =
        sym (drop_at (v.before ++ xs) v.after (i + length xs) (length-append v.before xs ∙ ap (λ (n : ℕ). n + length xs) v.place))
        ∙ ap (λ (z : List ℕ). drop (i + length xs) z) (sym front ∙ w.whole)
        ∙ drop_at w.before (ys ++ w.after) (i + length xs) w.place

stands_on : {s : List ℕ} {i w : ℕ} (xs ys : List ℕ) → w ≡ i + length xs → Stands s i xs → Stands s w ys → Stands s i (xs ++ ys)
stands_on {s} xs ys e v t = stands_join xs ys v (subst (λ (k : ℕ). Stands s k ys) e t)

-- the numbers xs stand from i up to w
record Nums (s : List ℕ) (i : ℕ) (xs : List ℕ) (w : ℕ) : Type 0 where
  low : Low xs
  stands : Stands s i (encoded_all xs)
  ends : w ≡ i + length (encoded_all xs)
  fits : w ≤ length s

nums_none : (s : List ℕ) (i : ℕ) → i ≤ length s → Nums s i [] i
unfolding encoded_all
nums_none s i h = record { low = tt; stands = stands_none s i h; ends = omega arith; fits = h }

nums_more : {s : List ℕ} {i v q w : ℕ} {xs : List ℕ} → Back s i v q → Nums s q xs w → Nums s i (v ∷ xs) w
unfolding encoded_all
nums_more {s} {i} {v} {q} {w} {xs} b t =
    record {
      low = (b.small, t.low);
      stands = stands_on (encoded v) (encoded_all xs) b.ends b.bytes t.stands;
      ends = omega (arith, b.ends, t.ends, length-append (encoded v) (encoded_all xs));
      fits = t.fits;
    }

-- ---- what is not cut short

and_back : (r : Read) (k : ℕ → ℕ → Item) (x : Item) → and_then r k ≡ x → x ≢ Err refusal.BadRecord → (v : ℕ) × (q : ℕ) × (r ≡ Some (v, q)) × (k v q ≡ x)
and_back (Some (v, q)) k x e n = (v, q, refl, e)
and_back None k x e n = absurd (n (sym e))

end_back : (r : Option ℕ) (k : ℕ → Item) (x : Item) → end_then r k ≡ x → x ≢ Err refusal.BadRecord → (q : ℕ) × (r ≡ Some q) × (k q ≡ x)
end_back (Some q) k x e n = (q, refl, e)
end_back None k x e n = absurd (n (sym e))

skip_at_lem : (a b : ℕ) → Some a ≡ Some b → a ≡ b
skip_at_lem a b e = cc

skip_never : (b : ℕ) → None ≡ Some b → ⊥
skip_never b e = let z : ◌≡◌ {A = ℕ} 0 1 = cc in omega arith

-- names and text numbers, two and two
paired : (n : ℕ) (xs : List ℕ) → length xs ≡ n * 2 → (ps : List (ℕ × ℕ)) × (length ps ≡ n) × (flat ps ≡ xs)
unfolding flat
paired zero [] e = ([], refl, refl)
paired zero (x ∷ xs) e = absurd (omega arith)
paired (suc n) [] e = absurd (omega arith)
paired (suc n) (x ∷ []) e = absurd (omega arith)
paired (suc n) (x ∷ y ∷ xs) e =
    let t = paired n xs (omega arith) in
    ((x, y) ∷ t.0, ap suc t.1, ap (λ (z : List ℕ). x ∷ y ∷ z) t.2)

-- what a call that is read has after its arguments
record PairsBack (s : List ℕ) (i call : ℕ) (ps : List (ℕ × ℕ)) : Type 0 where
  pairs : pairs_of call ≡ 0 → ps ≡ []
  few : length ps ≤ 65535
  smalls : Low (flat ps)
  stands : Stands s i (encoded_all (pair_numbers call ps))

-- what it has as arguments, up to w
record ArgsBack (s : List ℕ) (i call n : ℕ) (x : Item) : Type 0 where
  args : List ℕ
  w : ℕ
  a : ℕ
  b : ℕ
  c : ℕ
  count : length args ≡ n
  nums : Nums s i args w
  rest : pairs_at s w call a b c ≡ x

-- an unknown call or a record of a known one stands at i
data Found (s : List ℕ) (i : ℕ) : Type 0 where
  unknown : (call : ℕ) → call ≤ 65535 → (call ≡ 0) ⊎ (18 < call) → Stands s i (encoded call) → Found s i
  known : (call : ℕ) (args : List ℕ) (ps : List (ℕ × ℕ)) → Written call args ps → Stands s i (record_of call args ps) → Found s i

call_not_bad : (r : Record) (next : ℕ) → ◌≢◌ {A = Item} (Ok (r, next)) (Err refusal.BadRecord)
call_not_bad r next e = let z : ◌≡◌ {A = ℕ} 0 1 = cc in omega arith

call_not_unknown : (r : Record) (next : ℕ) → ◌≢◌ {A = Item} (Ok (r, next)) (Err refusal.Unknown)
call_not_unknown r next e = let z : ◌≡◌ {A = ℕ} 0 1 = cc in omega arith

unknown_not_bad : ◌≢◌ {A = Item} (Err refusal.Unknown) (Err refusal.BadRecord)
unknown_not_bad e = let z : ◌≡◌ {A = ℕ} 0 1 = cc in omega arith

same_call : (r r' : Record) {next next' : ℕ} → ◌≡◌ {A = Item} (Ok (r, next)) (Ok (r', next')) → r.call ≡ r'.call
same_call r r' e = ap call_in e
  where
    call_in : Item → ℕ
    call_in (Ok (r, next)) = r.call
    call_in (Err e) = 0

-- the arguments of a call that takes n
arguments_for : List ℕ → ℕ → ℕ → ℕ → Item
arguments_for s i call n =
    and_then (number_if s i 0 n) (λ (a p : ℕ). and_then (number_if s p 1 n) (λ (b q : ℕ). and_then (number_if s q 2 n) (λ (c w : ℕ). pairs_at s w call a b c)))

module _ (s : List ℕ) (small : (k : ℕ) → get_or s k 0 < 256) where
  back : (i v q : ℕ) → number_at s i ≡ Some (v, q) → Back s i v q
  back i v q e = number_back s i small v q e

  skip_back : (n i q : ℕ) → i ≤ length s → skip_at s i n ≡ Some q → (xs : List ℕ) × (length xs ≡ n) × Nums s i xs q
  unfolding skip_at
  skip_back zero i q h e = ([], refl, subst (λ (k : ℕ). Nums s i [] k) (skip_at_lem i q e) (nums_none s i h))
  skip_back (suc n) i q h e = by (number_at s i) refl e (λ j. skip_back n j q)
    where
      by : (r : Read) → number_at s i ≡ r → skip_then r (λ (next : ℕ). skip_at s next n) ≡ Some q
          → ((j : ℕ) → j ≤ length s → skip_at s j n ≡ Some q → (xs : List ℕ) × (length xs ≡ n) × Nums s j xs q)
          → (xs : List ℕ) × (length xs ≡ suc n) × Nums s i xs q
      by None g f more = absurd (skip_never q f)
      by (Some (v, j)) g f more =
          let t = back i v j g in
          let r = more j t.fits f in
          (v ∷ r.0, ap suc r.1, nums_more t r.2)

  -- ---- pairs

  pairs_back : (i call a b c : ℕ) (x : Item) → i ≤ length s → pairs_at s i call a b c ≡ x → x ≢ Err refusal.BadRecord → (ps : List (ℕ × ℕ)) × PairsBack s i call ps
  unfolding pairs_at number_if pair_numbers encoded_all flat
  pairs_back i call a b c x h e n = by (ℕ_discrete (pairs_of call) 0)
    where
      some : pairs_of call ≢ 0 → and_then (number_at s i) (λ (count from : ℕ). end_then (skip_at s from (count * 2)) (λ (next : ℕ). Ok (asked call a b c from count, next))) ≡ x
          → (ps : List (ℕ × ℕ)) × PairsBack s i call ps
      some z f =
          let t = and_back (number_at s i) (λ (count from : ℕ). end_then (skip_at s from (count * 2)) (λ (next : ℕ). Ok (asked call a b c from count, next))) x f n in
          let u = back i t.0 t.1 t.2 in
          let r = end_back (skip_at s t.1 (t.0 * 2)) (λ (next : ℕ). Ok (asked call a b c t.1 t.0, next)) x t.3 n in
          let k = skip_back (t.0 * 2) t.1 r.0 u.fits r.1 in
          let p = paired t.0 k.0 k.1 in
          let m = nums_more u k.2 in (
            p.0,
            record {
              pairs = λ y. absurd {A = p.0 ≡ []} (z y);
              few = rw p.1 u.small;
              smalls = rw p.2 k.2.low;
              stands = rw (ne_eqb (pairs_of call) 0 z, p.1, p.2) m.stands;
            },
          )

      by : Dec (pairs_of call ≡ 0) → (ps : List (ℕ × ℕ)) × PairsBack s i call ps
      by (yes z) =
          ([], record { pairs = λ y. refl; few = omega arith; smalls = tt; stands = rw (eq-eqb (pairs_of call) 0 z) (stands_none s i h) })
      by (no z) = some z (rw (lt-ltb 0 (pairs_of call) (omega arith)) at e)

  -- ---- arguments

  args_back : (n i call : ℕ) (x : Item) → n ≤ 3 → i ≤ length s → arguments_for s i call n ≡ x → x ≢ Err refusal.BadRecord → ArgsBack s i call n x
  unfolding arguments_for number_if
  args_back zero i call x l h e n = record { args = []; w = i; a = 0; b = 0; c = 0; count = refl; nums = nums_none s i h; rest = e }
  args_back (suc zero) i call x l h e n =
      let t = and_back (number_at s i) _ x e n in
      let u = back i t.0 t.1 t.2 in
      record { args = t.0 ∷ []; w = t.1; a = t.0; b = 0; c = 0; count = refl; nums = nums_more u (nums_none s t.1 u.fits); rest = t.3 }
  args_back (suc (suc zero)) i call x l h e n =
      let t = and_back (number_at s i) _ x e n in
      let u = back i t.0 t.1 t.2 in
      let t₂ = and_back (number_at s t.1) _ x t.3 n in
      let u₂ = back t.1 t₂.0 t₂.1 t₂.2 in
      record {
        args = t.0 ∷ t₂.0 ∷ [];
        w = t₂.1;
        a = t.0;
        b = t₂.0;
        c = 0;
        count = refl;
        nums = nums_more u (nums_more u₂ (nums_none s t₂.1 u₂.fits));
        rest = t₂.3;
      }
  args_back (suc (suc (suc zero))) i call x l h e n =
      let t = and_back (number_at s i) _ x e n in
      let u = back i t.0 t.1 t.2 in
      let t₂ = and_back (number_at s t.1) _ x t.3 n in
      let u₂ = back t.1 t₂.0 t₂.1 t₂.2 in
      let t₃ = and_back (number_at s t₂.1) _ x t₂.3 n in
      let u₃ = back t₂.1 t₃.0 t₃.1 t₃.2 in
      record {
        args = t.0 ∷ t₂.0 ∷ t₃.0 ∷ [];
        w = t₃.1;
        a = t.0;
        b = t₂.0;
        c = t₃.0;
        count = refl;
        nums = nums_more u (nums_more u₂ (nums_more u₃ (nums_none s t₃.1 u₃.fits)));
        rest = t₃.3;
      }
  args_back (suc (suc (suc (suc n)))) i call x l h e m = absurd (omega arith)

  -- ---- records

  arguments_back : (i call : ℕ) (x : Item) → i ≤ length s → arguments_at s i call ≡ x → x ≢ Err refusal.BadRecord → ArgsBack s i call (count_of call) x
  unfolding arguments_at arguments_for
  arguments_back i call x h e n = args_back (count_of call) i call x (count_few call) h e n

  module _ (i : ℕ) where
    -- what stands there, where the record is not cut short or badly written
    found : (x : Item) → item_at s i ≡ x → x ≢ Err refusal.BadRecord → Found s i
    unfolding item_at record_of
    found x e n =
        let t = and_back (number_at s i) _ x e n in
        by t.0 t.1 (back i t.0 t.1 t.2) (eqb t.0 0) (ltb 18 t.0) refl refl t.3
      where
        by : (call p : ℕ) → Back s i call p → (a b : Bool) → eqb call 0 ≡ a → ltb 18 call ≡ b
            → pick a (Err refusal.Unknown) (pick b (Err refusal.Unknown) (arguments_at s p call)) ≡ x → Found s i
        by call p u true b d g f = unknown call u.small (inl (eqb-true call 0 d)) u.bytes
        by call p u false true d g f = unknown call u.small (inr (ltb-true 18 call g)) u.bytes
        by call p u false false d g f =
            let z = eqb-false call 0 d in
            let r = arguments_back p call x u.fits f n in
            let k = pairs_back r.w call r.a r.b r.c x r.nums.fits r.rest n in
            known call r.args k.0
            (record {
              known = (omega arith, ltb-false 18 call g);
              count = r.count;
              small = r.nums.low;
              pairs = k.1.pairs;
              few = k.1.few;
              smalls = k.1.smalls;
            })
            (stands_on (encoded call) (encoded_all r.args ++ encoded_all (pair_numbers call k.0)) u.ends u.bytes
            (stands_on (encoded_all r.args) (encoded_all (pair_numbers call k.0)) r.nums.ends r.nums.stands k.1.stands))

    -- a call that is read was written as a record of that call
    pub item_back : (r : Record) (next : ℕ) → item_at s i ≡ Ok (r, next)
        → (args : List ℕ) × (ps : List (ℕ × ℕ)) × Written r.call args ps × Stands s i (record_of r.call args ps)
    item_back r next e = by (found (Ok (r, next)) e (call_not_bad r next))
      where
        by : Found s i → (args : List ℕ) × (ps : List (ℕ × ℕ)) × Written r.call args ps × Stands s i (record_of r.call args ps)
        by (unknown k h o w) = absurd (call_not_unknown r next (sym e ∙ item_unknown s i k h o w))
        by (known k args ps t w) =
            let d : k ≡ r.call = same_call _ r (sym (item_call s i k args ps t w).1.is ∙ e) in
            (args, ps, rw d at t, rw d at w)

    -- an unknown call that is read was written as a number that is no call's
    pub unknown_back : item_at s i ≡ Err refusal.Unknown → (call : ℕ) × (call ≤ 65535) × ((call ≡ 0) ⊎ (18 < call)) × Stands s i (encoded call)
    unknown_back e = by (found (Err refusal.Unknown) e unknown_not_bad)
      where
        by : Found s i → (call : ℕ) × (call ≤ 65535) × ((call ≡ 0) ⊎ (18 < call)) × Stands s i (encoded call)
        by (unknown k h o w) = (k, h, o, w)
        by (known k args ps t w) = absurd (call_not_unknown _ _ (sym (item_call s i k args ps t w).1.is ∙ e))

    -- a record is cut short or badly written exactly where neither an unknown call nor a record of a known one stands
    pub item_bad : (item_at s i ≡ Err refusal.BadRecord)
        ↔ (((call : ℕ) → call ≤ 65535 → (call ≡ 0) ⊎ (18 < call) → ¬ Stands s i (encoded call))
        × ((call : ℕ) (args : List ℕ) (ps : List (ℕ × ℕ)) → Written call args ps → ¬ Stands s i (record_of call args ps)))
    item_bad = (
      λ e. (
        λ call h o w. unknown_not_bad (sym (item_unknown s i call h o w) ∙ e),
        λ call args ps t w. call_not_bad _ _ (sym (item_call s i call args ps t w).1.is ∙ e),
      ),
      λ f. by (item_at s i) refl f,
    )
      where
        none : Found s i
            → (((call : ℕ) → call ≤ 65535 → (call ≡ 0) ⊎ (18 < call) → ¬ Stands s i (encoded call))
            × ((call : ℕ) (args : List ℕ) (ps : List (ℕ × ℕ)) → Written call args ps → ¬ Stands s i (record_of call args ps))) → ⊥
        none (unknown k h o w) f = f.0 k h o w
        none (known k args ps t w) f = f.1 k args ps t w

        by : (x : Item) → item_at s i ≡ x
            → (((call : ℕ) → call ≤ 65535 → (call ≡ 0) ⊎ (18 < call) → ¬ Stands s i (encoded call))
            × ((call : ℕ) (args : List ℕ) (ps : List (ℕ × ℕ)) → Written call args ps → ¬ Stands s i (record_of call args ps))) → x ≡ Err refusal.BadRecord
        by (Ok (r, next)) e f = absurd (none (found (Ok (r, next)) e (call_not_bad r next)) f)
        by (Err k) e f = go (item_told s i e)
          where
            go : (k ≡ refusal.Unknown) ⊎ (k ≡ refusal.BadRecord) → ◌≡◌ {A = Item} (Err k) (Err refusal.BadRecord)
            go (inl u) = absurd (none (found (Err refusal.Unknown) (rw u at e) unknown_not_bad) f)
            go (inr b) = rw b refl
