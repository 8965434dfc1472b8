-- A fourth equal tag drops the first; with a marker between, none; and after a marker, the first after it. The entries are taken to
-- have the tag, all of them.
-- Assumes nothing.
use Rattle.std.proofs.Common.{ℕ, ◌≡◌, refl, Bool, true, [], ◌∷◌, None, Some}
use Rattle.places.specs.Places.{places_of, place_of, first_with, last_with, down}
use Rattle.standard.specs.Small.{MARKER}
use Rattle.standard.specs.Formatting.{after, after_marker, how_many, surplus}

abbrev all : ℕ → Bool
all n = true

pub fourth : surplus all (places_of (4 ∷ 5 ∷ 6 ∷ []) 3) ≡ Some 0
unfolding surplus after_marker after how_many place_of first_with last_with down
fourth = refl

pub third : surplus all (places_of (4 ∷ 5 ∷ 0 ∷ []) 2) ≡ None
unfolding surplus after_marker after how_many place_of first_with last_with down
third = refl

pub marker_between : surplus all (places_of (4 ∷ MARKER ∷ 5 ∷ 6 ∷ []) 4) ≡ None
unfolding surplus after_marker after how_many place_of first_with last_with down
marker_between = refl

pub marker_before : surplus all (places_of (4 ∷ MARKER ∷ 5 ∷ 6 ∷ 7 ∷ []) 5) ≡ Some 2
unfolding surplus after_marker after how_many place_of first_with last_with down
marker_before = refl
