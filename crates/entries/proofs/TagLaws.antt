-- The cases of equal tags, as the code meets them. Nothing else unfolds what equal means.
-- Assumes nothing.
use Rattle.std.proofs.Common.{ℕ, zero, suc, ◌+◌, ◌-◌, ◌<◌, ◌≤◌, ◌≡◌, refl, sym, ap, ◌∙◌, Bool, true, false, ◌&&◌, List, ◌∷◌, arith, sub-one, not-suc-le-zero, add-zero, eqb, eq-eqb, ne_eqb}
use Rattle.std.proofs.Math.Nat.{sub-zero}
use Rattle.lent.specs.Mem.{PAIRS, load, field, NAME, START, COUNT}
use Rattle.records.specs.Pair.{name_at, text_at, pair_next}
use Rattle.standard.specs.Pairs.{pairs_in}
use Rattle.standard.specs.Formatting.{pairs_of, same_pairs, same_tag}

-- ---- the pairs

pairs_more : (s : List ℕ) (i k : ℕ) → 0 < k → pairs_in s i k ≡ (name_at s i, text_at s i) ∷ pairs_in s (pair_next s i) (k - 1)
unfolding pairs_in
pairs_more s i zero h = absurd (not-suc-le-zero h)
pairs_more s i (suc k) h = rw sub-one

of_more : (q : List ℕ) (u k : ℕ) → 0 < k → pairs_of q u k ≡ (load PAIRS q u 0, load PAIRS q u 1) ∷ pairs_of q (u + 1) (k - 1)
unfolding pairs_of
of_more q u zero h = absurd (not-suc-le-zero h)
of_more q u (suc k) h = rw sub-one

same_none : (q s : List ℕ) (u i : ℕ) → same_pairs (pairs_of q u 0) (pairs_in s i 0) ≡ true
unfolding same_pairs pairs_of pairs_in
same_none q s u i = refl

and_no : (a b : Bool) {d : Bool} → d ≡ false → a && (b && d) ≡ false
and_no false b h = refl
and_no true false h = refl
and_no true true h = h

-- lists of pairs of other lengths are not equal
pub same_lengths : (q s : List ℕ) (u i j k : ℕ) → (j ≡ k → ⊥) → same_pairs (pairs_of q u j) (pairs_in s i k) ≡ false
unfolding same_pairs pairs_of pairs_in
same_lengths q s u i zero zero h = absurd (h refl)
same_lengths q s u i zero (suc k) h = refl
same_lengths q s u i (suc j) zero h = refl
same_lengths q s u i (suc j) (suc k) h =
    and_no (eqb (load PAIRS q u 0) (name_at s i)) (eqb (load PAIRS q u 1) (text_at s i)) (same_lengths q s (u + 1) (pair_next s i) j k (λ e. h (ap suc e)))

-- the loop that compares: i of count pairs are the same, and all comes to G
module _ (q s : List ℕ) (start at count i : ℕ) where
  pub same_end : {G : Bool} → count ≤ i → G ≡ same_pairs (pairs_of q (start + i) (count - i)) (pairs_in s at (count - i)) → true ≡ G
  same_end h g = let z : count - i ≡ 0 = omega arith in sym (g ∙ rw z (same_none q s (start + i) at))

  module _ (h : i < count) {n : ℕ} (en : n ≡ name_at s at) {a : ℕ} (ea : a ≡ load PAIRS q (start + i) 0) {G : Bool} (g : G ≡ same_pairs (pairs_of q (start + i) (count - i)) (pairs_in s at (count - i))) where
    same_step : G ≡ eqb a n && (eqb (load PAIRS q (start + i) 1) (text_at s at) && same_pairs (pairs_of q ((start + i) + 1) ((count - i) - 1)) (pairs_in s (pair_next s at) ((count - i) - 1)))
    unfolding same_pairs
    same_step =
        let z : 0 < count - i = omega arith in
        g ∙ rw (of_more q (start + i) (count - i) z, pairs_more s at (count - i) z, ← ea, ← en)

    pub other_name : (a ≡ n → ⊥) → false ≡ G
    other_name d = sym (same_step ∙ rw (ne_eqb a n d))

    module _ (e : a ≡ n) {t b : ℕ} (et : t ≡ text_at s at) (eb : b ≡ load PAIRS q (start + i) 1) where
      pub other_text : (b ≡ t → ⊥) → false ≡ G
      other_text d = sym (same_step ∙ rw (eq-eqb a n e, ← eb, ← et, ne_eqb b t d))

      pub same_turn : {next : ℕ} → b ≡ t → next ≡ pair_next s at → G ≡ same_pairs (pairs_of q (start + (i + 1)) (count - (i + 1))) (pairs_in s next (count - (i + 1)))
      same_turn d ex =
          let y : (start + i) + 1 ≡ start + (i + 1) = omega arith in
          let z : (count - i) - 1 ≡ count - (i + 1) = omega arith in
          same_step ∙ rw (eq-eqb a n e, ← eb, ← et, eq-eqb b t d, y, z, ex)

-- ---- the tags

module _ (m q s : List ℕ) (name from count n : ℕ) {a : ℕ} (ea : a ≡ field m n NAME) where
  pub tag_name : (a ≡ name → ⊥) → false ≡ same_tag m q name (pairs_in s from count) n
  unfolding same_tag
  tag_name h = rw (ne_eqb (field m n NAME) name (λ e. h (ea ∙ e)))

  module _ (e : a ≡ name) {k : ℕ} (ek : k ≡ field m n COUNT) where
    pub tag_count : (k ≡ count → ⊥) → false ≡ same_tag m q name (pairs_in s from count) n
    unfolding same_tag
    tag_count h =
        rw (eq-eqb (field m n NAME) name (sym ea ∙ e))
        (sym (same_lengths q s (field m n START) from (field m n COUNT) count (λ d. h (ek ∙ d))))

    pub tag_pairs : {u : ℕ} {b : Bool} → k ≡ count → u ≡ field m n START → b ≡ same_pairs (pairs_of q u count) (pairs_in s from count) → b ≡ same_tag m q name (pairs_in s from count) n
    unfolding same_tag
    tag_pairs d eu eb = eb ∙ rw (eq-eqb (field m n NAME) name (sym ea ∙ e), sym ek ∙ d, eu)
