-- Laws of writing into a list: nothing, a byte, one text after another, and what the whole is where it fits.
-- Assumes nothing.
use Rattle.std.proofs.Common.{◌≡◌, refl, sym, ap, ◌∙◌, List, [], ◌∷◌, ◌++◌, ℕ, suc, ◌+◌, ◌≤◌, ◌<◌, min, zero-add, add-one, arith, length, set, get_or, take, drop, length-append, length-set, take-suc}
use Rattle.std.proofs.Math.Decide.{dec_lt}
use Rattle.std.proofs.Math.Seq.{sets, length-sets, sets-eq, set_out}
use Rattle.dump.specs.Written.{written, place_after, Wrote, Grew}
use Rattle.dump.specs.declared.page.Page.{Page}

-- past the end nothing is stored
sets_past : (xs o : List ℕ) (i : ℕ) → length o ≤ i → sets o i xs ≡ o
sets_past [] o i h = refl
sets_past (x ∷ xs) o i h = rw (set_out o i x h) (sets_past xs o (suc i) (omega arith))

-- the place after, taken apart: none, one more, none past the end, some and then some more
place_after_none : (l i : ℕ) → place_after l i 0 ≡ i
unfolding place_after
place_after_none l i = omega arith

place_after_one : (l i : ℕ) → i < l → place_after l i 1 ≡ i + 1
unfolding place_after
place_after_one l i h = omega arith

place_after_step : (l i n : ℕ) → i < l → place_after l (suc i) n ≡ place_after l i (suc n)
unfolding place_after
place_after_step l i n h = omega arith

place_after_past : (l i n : ℕ) → l ≤ i → place_after l i n ≡ i
unfolding place_after
place_after_past l i n h = omega arith

place_after_add : (l i n k : ℕ) → place_after l (place_after l i n) k ≡ place_after l i (n + k)
unfolding place_after
place_after_add l i n k = omega arith

sets_append : (xs ys o : List ℕ) (i : ℕ) → sets o i (xs ++ ys) ≡ sets (sets o i xs) (place_after (length o) i (length xs)) ys
sets_append [] ys o i = rw (place_after_none (length o) i)
sets_append (x ∷ xs) ys o i = by (dec_lt i (length o)) (sets_append xs ys (set o i x) (suc i))
  where
    by : Dec (i < length o)
        → sets (set o i x) (suc i) (xs ++ ys) ≡ sets (sets (set o i x) (suc i) xs) (place_after (length (set o i x)) (suc i) (length xs)) ys
        → sets (set o i x) (suc i) (xs ++ ys) ≡ sets (sets (set o i x) (suc i) xs) (place_after (length o) i (suc (length xs))) ys
    by (yes h) e = e ∙ rw (length-set o i x, place_after_step (length o) i (length xs) h)
    by (no h) e =
        let l : length o ≤ i = omega arith in
        rw (
          place_after_past (length o) i (suc (length xs)) l,
          set_out o i x l,
          sets_past (xs ++ ys) o (suc i) (omega arith),
          sets_past xs o (suc i) (omega arith),
          sets_past ys o i l,
        )

pub wrote_none : (o : List ℕ) (i : ℕ) → Wrote o i [] o i
unfolding written
wrote_none o i = record { stored = refl; ends = sym (place_after_none (length o) i) }

-- one text after another
pub and_then : {o : List ℕ} {i : ℕ} {xs e : List ℕ} {j : ℕ} {ys f : List ℕ} {r : ℕ} → Wrote o i xs e j → Wrote e j ys f r → Wrote o i (xs ++ ys) f r
unfolding written
and_then {o} {i} {xs} {e} {j} {ys} {f} {r} v w =
    let l : length e ≡ length o = ap length v.stored ∙ length-sets o i xs in
    record {
      stored = w.stored ∙ rw (v.stored, v.ends) (sym (sets_append xs ys o i));
      ends = w.ends ∙ rw (l, v.ends, length-append xs ys) (place_after_add (length o) i (length xs) (length ys));
    }

-- where all of it fits it stands in front, and the rest stays
pub written_fits : (o xs : List ℕ) → length xs ≤ length o → written o 0 xs ≡ xs ++ drop (length xs) o
unfolding written
written_fits o xs h = sets-eq xs o 0 (omega arith) ∙ rw zero-add

-- ---- the same of a page

pub grew_none : (p : Page) → Grew p p []
grew_none p = record { loan = refl; wrote = wrote_none p.out.now p.at }

-- a byte is stored where there is a place for it
pub grew_byte : {p q : Page} (b : ℕ) → p.at < length p.out.now → q.out.ghost_name ≡ p.out.ghost_name → q.out.now ≡ set p.out.now p.at b → q.at ≡ p.at + 1 → Grew p q (b ∷ [])
unfolding written
grew_byte {p} {q} b h l s e = record { loan = l; wrote = record { stored = s; ends = e ∙ sym (place_after_one (length p.out.now) p.at h) } }

pub grew_past : (p : Page) (b : ℕ) → length p.out.now ≤ p.at → Grew p p (b ∷ [])
unfolding written
grew_past p b h =
    record { loan = refl; wrote = record { stored = sym (set_out p.out.now p.at b h); ends = sym (place_after_past (length p.out.now) p.at 1 h) } }

pub grew_then : {a b d : Page} {xs ys : List ℕ} → Grew a b xs → Grew b d ys → Grew a d (xs ++ ys)
grew_then v w = record { loan = w.loan ∙ v.loan; wrote = and_then v.wrote w.wrote }

-- the first k bytes, and then the next one
pub grew_next : {a d f : Page} (b : List ℕ) (k : ℕ) → k < length b → Grew a d (take k b) → Grew d f (get_or b k 0 ∷ []) → Grew a f (take (k + 1) b)
grew_next b k h v w = rw (add-one, take-suc b k 0 h) (grew_then v w)

-- what is written is known by another name
pub grew_as : {a b : Page} {xs ys : List ℕ} → xs ≡ ys → Grew a b xs → Grew a b ys
grew_as h w = rw h at w

-- on a page that was new: how many bytes were stored, and what they make of the buffer
pub grew_front : {a b : Page} {o xs : List ℕ} → a.out.now ≡ o → a.at ≡ 0 → Grew a b xs → (b.at ≡ min (length xs) (length o)) × (b.out.now ≡ written o 0 xs)
unfolding place_after
grew_front {a} {b} {o} {xs} u f w =
    let v : Wrote o 0 xs b.out.now b.at = rw (u, f) at w.wrote in
    (omega (arith, v.ends), v.stored)
