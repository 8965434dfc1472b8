-- What the searches of the agency find, and that it is in range.
-- Assumes nothing.
use Rattle.std.proofs.Common.{ℕ, ◌<◌, ◌≡◌, sym, ◌∙◌, List, arith, Option, Some}
use Rattle.places.specs.Places.{Places, Whole, places_of, at, place_of}
use Rattle.places.proofs.Laws.{of_whole, place_lt}
use Rattle.standard.specs.Adoption.{entry_of, furthest_of}
use Rattle.adopted.proofs.Position as position
use Rattle.adopted.proofs.FirmLaws as adopted-laws

-- ---- the formatting element

module _ (m : List ℕ) (l : Places) (name j : ℕ) {o : Option ℕ} where
  pub entry_lt : Whole l → o ≡ entry_of m l name → o ≡ Some j → j < l.size
  entry_lt w eo e = omega (arith, w.all, position.entry_lt m l name j (sym eo ∙ e))

  -- no later entry is the same
  pub entry_place : o ≡ entry_of m l name → o ≡ Some j → place_of l (at l j) ≡ Some j
  entry_place eo e = position.entry_last m l name j (sym eo ∙ e)

-- ---- where an element is open

pub open_lt : (s : List ℕ) (d n i : ℕ) {o : Option ℕ} → Whole (places_of s d) → o ≡ place_of (places_of s d) n → o ≡ Some i → i < d
open_lt s d n i w eo e = place_lt s d n i (of_whole s d w) (sym eo ∙ e)

pub open_is : (p : Places) (n i : ℕ) {o : Option ℕ} → o ≡ place_of p n → o ≡ Some i → at p i ≡ n
open_is p n i eo e = position.place_at p n i (sym eo ∙ e)

-- ---- the furthest block

pub furthest_lt : (m : List ℕ) (p : Places) (s b : ℕ) {o : Option ℕ} → Whole p → o ≡ furthest_of m p s → o ≡ Some b → b < p.size
furthest_lt m p s b w eo e = omega (arith, w.all, adopted-laws.furthest_lt m p s b (sym eo ∙ e))
