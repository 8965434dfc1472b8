-- What every entry of some places has: each operation keeps the places whole, and keeps it, if the entry that comes in has it.
-- Assumes nothing.
use Rattle.std.proofs.Common.{ℕ, zero, suc, ◌+◌, ◌-◌, ◌≤◌, ◌<◌, ◌≡◌, refl, ap, sym, ◌∙◌, subst, Bool, true, false, List, ◌∷◌, ◌++◌, arith, eqb, length, get_or, take, drop, set, length-append, length-take, length-drop, length-set, get_or-append-add, get_or-drop, get_or-take, get_or-set_same, get_or-set_other, length-take-le, eqb-true, None, Option, Some}
use Rattle.std.proofs.Math.Decide.{dec_lt}
use Rattle.std.proofs.Math.ListN.{get_or-append}
use Rattle.std.proofs.lemmas.Bool.{eqb-false}
use Rattle.names.specs.Sets.{Special}
use Rattle.places.specs.Places.{Places, Whole, without, within, swapped, cut, place_of, after_at, exchanged_at, exchanged}
use Rattle.standard.specs.Stack.{is_of, named, in_scope, ended_at, end_tag}
use Rattle.standard.specs.Adoption.{gone, at_mark, relisted}
use Rattle.places.proofs.Laws.{last_found}
use Rattle.stacks.proofs.StackLaws.{end_cut}
use Rattle.adopted.proofs.Position.{place_last}

pub record Each (P : ℕ → Type 0) (xs : List ℕ) : Type 0 where
  pub has : (i : ℕ) → i < length xs → P (get_or xs i 0)

pub record Holds (P : ℕ → Type 0) (p : Places) : Type 0 where
  pub whole : Whole p
  pub each : Each P p.held

module _ (P : ℕ → Type 0) where
  each_append : (xs ys : List ℕ) → Each P xs → Each P ys → Each P (xs ++ ys)
  each_append xs ys x y = record { has = λ i h. by i h (dec_lt i (length xs)) }
    where
      by : (i : ℕ) → i < length (xs ++ ys) → Dec (i < length xs) → P (get_or (xs ++ ys) i 0)
      by i h (yes a) = subst P (sym (get_or-append xs ys 0 i a)) (x.has i a)
      by i h (no n) =
          let e : length xs + (i - length xs) ≡ i = omega arith in
          subst P
          (sym (get_or-append-add xs ys (i - length xs) 0) ∙ ap (λ (m : ℕ). get_or (xs ++ ys) m 0) e)
          (y.has (i - length xs) (omega (arith, length-append xs ys)))

  each_take : (k : ℕ) (xs : List ℕ) → Each P xs → Each P (take k xs)
  each_take k xs x =
      record { has = λ i h. subst P (sym (get_or-take k xs i 0 (omega (arith, length-take k xs)))) (x.has i (omega (arith, length-take k xs))) }

  each_drop : (k : ℕ) (xs : List ℕ) → Each P xs → Each P (drop k xs)
  each_drop k xs x = record { has = λ i h. subst P (sym (get_or-drop k xs i 0)) (x.has (k + i) (omega (arith, length-drop k xs))) }

  each_cons : (n : ℕ) (xs : List ℕ) → P n → Each P xs → Each P (n ∷ xs)
  each_cons n xs p x = record { has = by }
    where
      by : (i : ℕ) → i < length (n ∷ xs) → P (get_or (n ∷ xs) i 0)
      by zero h = p
      by (suc i) h = x.has i (omega arith)

  each_set : (j n : ℕ) (xs : List ℕ) → P n → Each P xs → Each P (set xs j n)
  each_set j n xs p x = record { has = λ i h. by i (omega (arith, length-set xs j n)) (eqb i j) refl }
    where
      by : (i : ℕ) → i < length xs → (b : Bool) → eqb i j ≡ b → P (get_or (set xs j n) i 0)
      by i h true e =
          let z : i ≡ j = eqb-true i j e in
          subst P (sym (ap (λ (m : ℕ). get_or (set xs j n) m 0) z ∙ get_or-set_same xs j n 0 (omega arith))) p
      by i h false e = subst P (sym (get_or-set_other xs j i n 0 (eqb-false i j e))) (x.has i h)

  -- ---- one law an operation

  pub holds_without : (p : Places) (i : ℕ) → i < length p.held → Holds P p → Holds P (without p i)
  unfolding without
  holds_without p i h x =
      record {
        whole = record { all = simp (length-append, length-take, length-drop) (omega (arith, x.whole.all)) };
        each = each_append (take i p.held) (drop (i + 1) p.held) (each_take i p.held x.each) (each_drop (i + 1) p.held x.each);
      }

  pub holds_within : (p : Places) (i n : ℕ) → P n → Holds P p → Holds P (within p i n)
  unfolding within
  holds_within p i n a x =
      record {
        whole = record { all = simp (length-append, length-take, length-drop) (omega (arith, x.whole.all)) };
        each = each_append (take i p.held) (n ∷ drop i p.held) (each_take i p.held x.each) (each_cons n (drop i p.held) a (each_drop i p.held x.each));
      }

  pub holds_swapped : (p : Places) (i n : ℕ) → P n → Holds P p → Holds P (swapped p i n)
  unfolding swapped
  holds_swapped p i n a x = record { whole = record { all = x.whole.all ∙ sym (length-set p.held i n) }; each = each_set i n p.held a x.each }

  pub holds_cut : (p : Places) (i : ℕ) → i ≤ length p.held → Holds P p → Holds P (cut p i)
  unfolding cut
  holds_cut p i h x = record { whole = record { all = sym (length-take-le i p.held h) }; each = each_take i p.held x.each }

  holds_after : (q : Option ℕ) (p : Places) (n : ℕ) → P n → Holds P p → Holds P (after_at q p n)
  unfolding after_at
  holds_after None p n a x = x
  holds_after (Some i) p n a x = holds_within p (i + 1) n a x

  pub holds_exchanged : (p : Places) (f y n : ℕ) → P n → Holds P p → Holds P (exchanged p f y n)
  unfolding exchanged exchanged_at
  holds_exchanged p f y n a x = by (place_of p f) refl
    where
      by : (q : Option ℕ) → place_of p f ≡ q → Holds P (exchanged_at q p y n)
      by None e = x
      by (Some j) e = holds_after (place_of (without p j) y) (without p j) n a (holds_without p j (place_last p f j e).below x)

  pub holds_relisted : (p : Places) (k fe n : ℕ) → P n → Holds P p → Holds P (relisted k p fe n)
  unfolding relisted at_mark
  holds_relisted p k fe n a x = by (place_of p fe) refl
    where
      by : (q : Option ℕ) → place_of p fe ≡ q → Holds P (at_mark q p k n)
      by None e = x
      by (Some j) e = holds_within (without p j) (gone k j) n a (holds_without p j (place_last p fe j e).below x)

  end_none : (m : List ℕ) (p : Places) (name : ℕ) → in_scope Special (named m name) m p ≡ None → end_tag m p name ≡ p
  unfolding end_tag ended_at
  end_none m p name e = rw e

  -- 10: what an end tag leaves of the stack is a first part of it
  pub holds_ended : (m : List ℕ) (p : Places) (name : ℕ) → Holds P p → Holds P (end_tag m p name)
  unfolding in_scope
  holds_ended m p name x = by (in_scope Special (named m name) m p) refl
    where
      by : (q : Option ℕ) → in_scope Special (named m name) m p ≡ q → Holds P (end_tag m p name)
      by None e = rw (end_none m p name e) x
      by (Some i) e =
          let h : i < length p.held = (last_found (named m name) (is_of Special m) p i e).below in
          rw (end_cut m p i x.whole name e) (holds_cut p i (omega arith) x)

pub holds_more : (P Q : ℕ → Type 0) (p : Places) → ((n : ℕ) → P n → Q n) → Holds P p → Holds Q p
holds_more P Q p g x = record { whole = x.whole; each = record { has = λ i h. g (get_or p.held i 0) (x.each.has i h) } }
