-- An entry of the stack leaves, and a new one comes in right after another: what 4.19 of the adoption agency makes of the stack. The
-- order, and the rules on open elements.
-- Assumes nothing.
use Rattle.std.specs.Prelude.{ℕ, suc, ◌+◌, ◌-◌, ◌≤◌, ◌<◌, ◌≡◌, refl, List, [], ◌∷◌, ◌++◌, length, take, drop, None, Option, Some}
use Rattle.std.proofs.Common.{sym, ◌∙◌, arith, take-suc, eqb-true}
use Rattle.std.proofs.Math.Decide.{ℕ_discrete, dec_lt}
use Rattle.std.proofs.Math.Seq.{split_at, append_snoc}
use Rattle.std.proofs.lemmas.Bool.{eqb-false}
use Rattle.theory.specs.Fn.{at}
use Rattle.theory.specs.Ord.{Ord, remove, Wrap, wrap}
use Rattle.theory.specs.Natural.{Natural, natural→ord, ord→natural}
use Rattle.lent.specs.Mem.{field, KIND, ELEMENT}
use Rattle.places.specs.Places.{Places, without, within, down, same, never, last_with, place_of, after_at, exchanged, exchanged_at}
use Rattle.places.proofs.Laws.{down_last}
use Rattle.sound.specs.Sound.{Open}
use Rattle.kept.specs.Search.{down_past, after_none}
use Rattle.kept.specs.Leave.{more_low, more_here, more_high}

-- ---- where a node stands

pub record FoundAt (p : Places) (n : ℕ) : Type 0 where
  pub place : ℕ
  pub found : place_of p n ≡ Some place
  pub below : place < length p.held
  pub is : at p.held place ≡ n

-- one that stands somewhere is found
pub found_at : (p : Places) (n i : ℕ) → i < length p.held → at p.held i ≡ n → FoundAt p n
unfolding place_of last_with
found_at p n i h e = by (down (same n) never p.held (length p.held)) refl
  where
    by : (r : Option ℕ) → down (same n) never p.held (length p.held) ≡ r → FoundAt p n
    by None g =
        let t = (down_past (same n) p.held (length p.held)).none i (rw (g, after_none) (omega arith)) h in
        absurd (eqb-false (at p.held i) n t e)
    by (Some j) g =
        let t = down_last (same n) never p.held (length p.held) j g in
        record { place = j; found = g; below = t.below; is = eqb-true (at p.held j) n t.has }

pub exchanged_is : (p : Places) (f x n j i : ℕ) → place_of p f ≡ Some j → place_of (without p j) x ≡ Some i → exchanged p f x n ≡ within (without p j) (i + 1) n
unfolding exchanged exchanged_at after_at
exchanged_is p f x n j i e g = rw (e, g)

-- ---- a new node comes in right after the one whose children it takes

module _ {up up' : ℕ → ℕ} {c x : ℕ} (h : List ℕ) (i : ℕ) (l : i < length h) (e : at h i ≡ x) (o : Natural up c h) (w : Wrap up up' c x) where
  wrapped_ord : Ord up' (suc c) ((take i h ++ at h i ∷ []) ++ suc c ∷ drop (suc i) h)
  wrapped_ord =
      rw (append_snoc (take i h) (at h i) (suc c ∷ drop (suc i) h))
      (wrap (take i h) (at h i) (drop (suc i) h) (natural→ord (rw (split_at h i 0 l) at o)) (rw (← e) at w))

  -- with the new node on the stack
  pub wrapped_order : Natural up' (suc c) (take (suc i) h ++ suc c ∷ drop (suc i) h)
  wrapped_order = rw (take-suc h i 0 l) (ord→natural wrapped_ord)

  -- and before it is there
  pub wrapping_order : Natural up' (suc c) h
  wrapping_order =
      rw (sym (append_snoc (take i h) (at h i) (drop (suc i) h) ∙ sym (split_at h i 0 l)))
      (ord→natural (remove (take i h ++ at h i ∷ []) (suc c) (drop (suc i) h) wrapped_ord))

-- ---- open elements

pub open_within : {m l : List ℕ} {d : ℕ} → Open m l d → d ≡ length l → (i n : ℕ) → 0 < i → i ≤ d → field m n KIND ≡ ELEMENT
    → Open m (take i l ++ n ∷ drop i l) (d + 1)
open_within {m} {l} {d} o h i n z le e =
    record {
      some = omega arith;
      root = more_low l i n (omega arith) 0 z ∙ o.root;
      elements = λ k b. by k b (dec_lt k i) (ℕ_discrete k i);
    }
  where
    by : (k : ℕ) → k < d + 1 → Dec (k < i) → Dec (k ≡ i) → field m (at (take i l ++ n ∷ drop i l) k) KIND ≡ ELEMENT
    by k b (yes a) g = rw (more_low l i n (omega arith) k a) (o.elements k (omega arith))
    by k b (no a) (yes g) = rw (g, more_here l i n (omega arith)) e
    by k b (no a) (no g) =
        let r : suc (k - 1) ≡ k = omega arith in
        rw (rw r at (more_high l i n (omega arith) (k - 1) (omega arith))) (o.elements (k - 1) (omega arith))
