-- Words and a set, tested at every namespace and every name that the words have a bit for, and what follows at all numbers.
-- Assumes nothing.
use Rattle.std.proofs.Common.{◌≡◌, refl, sym, ◌⊎◌, inl, inr, Bool, true, false, ◌&&◌, List, [], ℕ, zero, suc, ◌≤◌, ◌<◌, eq-or-lt_of_le, le_of_suc-le-suc, not-suc-le-zero, T, ltb, ltb-true, ltb-false}
use Rattle.std.proofs.Math.Bool.{beq}
use Rattle.std.proofs.Math.Facts.{and_yes}
use Rattle.names.specs.Space as space
use Rattle.names.specs.Table.{span}
use Rattle.names.specs.Sets.{Names, names_in, is_in}
use Rattle.names.specs.Words.{in_words}

beq_eq : (a b : Bool) → T (beq a b) → a ≡ b
beq_eq true true t = refl
beq_eq true false t = absurd t
beq_eq false true t = absurd t
beq_eq false false t = refl

-- a test at each number below m
abbrev pub below : (ℕ → Bool) → ℕ → Bool
below f zero = true
below f (suc m) = f m && below f m

below_at : (f : ℕ → Bool) (m : ℕ) → T (below f m) → (n : ℕ) → n < m → T (f n)
below_at f zero t n h = absurd (not-suc-le-zero h)
below_at f (suc m) t n h = go (below_at f m (and_yes (f m) (below f m) t).1 n) (eq-or-lt_of_le (le_of_suc-le-suc h))
  where
    go : (n < m → T (f n)) → (n ≡ m) ⊎ (n < m) → T (f n)
    go r (inl e) = rw e (and_yes (f m) (below f m) t).0
    go r (inr l) = r l

abbrev pub agree_at : List ℕ → Names → ℕ → ℕ → Bool
agree_at ws s ns n = beq (in_words ws ns n) (is_in s ns n)

unfoldable pub agree : List ℕ → Names → Bool
agree ws s = below (λ ns. below (agree_at ws s ns) span) space.limit

no_space : (s : Names) (ns : ℕ) → space.limit ≤ ns → names_in s ns ≡ []
no_space s zero h = absurd (not-suc-le-zero h)
no_space s (suc zero) h = absurd (not-suc-le-zero (le_of_suc-le-suc h))
no_space s (suc (suc zero)) h = absurd (not-suc-le-zero (le_of_suc-le-suc (le_of_suc-le-suc h)))
no_space s (suc (suc (suc ns))) h = refl

-- words that agree with a set below the span agree everywhere, where the set has nothing past it
pub told : (ws : List ℕ) (s : Names) → T (agree ws s) → ((ns n : ℕ) → span ≤ n → is_in s ns n ≡ false) → (ns n : ℕ) → in_words ws ns n ≡ is_in s ns n
unfolding agree
told ws s t past ns n = go (ltb ns space.limit) (ltb n span) refl refl
  where
    go : (p q : Bool) → ltb ns space.limit ≡ p → ltb n span ≡ q → in_words ws ns n ≡ is_in s ns n
    go true true f g =
        beq_eq (in_words ws ns n) (is_in s ns n)
        (below_at (agree_at ws s ns) span
        (below_at (λ k. below (agree_at ws s k) span) space.limit t ns (ltb-true ns space.limit f)) n (ltb-true n span g))
    go true false f g = rw (f, g) (sym (past ns n (ltb-false n span g)))
    go false q f g = rw (f, no_space s ns (ltb-false ns space.limit f))
