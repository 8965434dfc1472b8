-- A node stands in a list of places, or it does not: when another entry leaves or is replaced, that stays so.
-- Assumes nothing.
use Rattle.std.specs.Prelude.{ℕ, ◌+◌, ◌-◌, ◌<◌, ◌≡◌, ◌≢◌, List, ◌++◌, length, take, drop, set}
use Rattle.std.proofs.Common.{ap, ◌∙◌, arith, get_or-set_same, get_or-set_other}
use Rattle.std.proofs.Math.Decide.{ℕ_discrete, dec_lt}
use Rattle.theory.specs.Fn.{at}
use Rattle.kept.specs.Leave.{Fewer, less_low, less_high}

-- n is one of the first k entries of l
pub record Stands (l : List ℕ) (k n : ℕ) : Type 0 where
  pub place : ℕ
  pub below : place < k
  pub is : at l place ≡ n

-- n is none of them
pub record Misses (l : List ℕ) (k n : ℕ) : Type 0 where
  pub none : (j : ℕ) → j < k → at l j ≢ n

-- ---- entry i leaves

-- what stood after it stands one place before
pub less_back : (h : List ℕ) (i : ℕ) → i < length h → (j : ℕ) → i < j → at (take i h ++ drop (i + 1) h) (j - 1) ≡ at h j
less_back h i lt j b = less_high h i lt (j - 1) (omega arith) ∙ ap (λ (r : ℕ). at h r) (let e : j - 1 + 1 ≡ j = omega arith in e)

pub stands_less : {n : ℕ} (h : List ℕ) (i k : ℕ) → i < length h → k ≡ length h → at h i ≢ n → Stands h k n → Stands (take i h ++ drop (i + 1) h) (k - 1) n
stands_less {n} h i k lt e d w = by (dec_lt w.place i) (ℕ_discrete w.place i)
  where
    by : Dec (w.place < i) → Dec (w.place ≡ i) → Stands (take i h ++ drop (i + 1) h) (k - 1) n
    by (yes a) z = record { place = w.place; below = omega arith; is = less_low h i lt w.place a ∙ w.is }
    by (no a) (yes z) = absurd (d (rw z at w.is))
    by (no a) (no z) = record { place = w.place - 1; below = omega (arith, w.below); is = less_back h i lt w.place (omega arith) ∙ w.is }

pub misses_fewer : {l l' : List ℕ} {k k' n : ℕ} → Misses l k n → Fewer l l' k k' → Misses l' k' n
misses_fewer w g = record { none = λ j b. rw (g.same j b) (w.none (g.from j) (g.below j b)) }

-- ---- x takes the place of entry i

pub stands_set : {l : List ℕ} {k n : ℕ} (i x : ℕ) → at l i ≢ n → Stands l k n → Stands (set l i x) k n
stands_set {l} {k} {n} i x d w =
    record { place = w.place; below = w.below; is = get_or-set_other l i w.place x 0 (λ e. d (rw e at w.is)) ∙ w.is }

pub misses_set : {l : List ℕ} {k n : ℕ} (i x : ℕ) → i < length l → x ≢ n → Misses l k n → Misses (set l i x) k n
misses_set {l} {k} {n} i x h d w = record { none = λ j b. by j b (ℕ_discrete j i) }
  where
    by : (j : ℕ) → j < k → Dec (j ≡ i) → at (set l i x) j ≢ n
    by j b (yes e) = rw (e, get_or-set_same l i x 0 h) d
    by j b (no e) = rw (get_or-set_other l i j x 0 e) (w.none j b)
