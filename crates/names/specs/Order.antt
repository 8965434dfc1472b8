-- The order of byte strings: by the first byte at which they differ, and a string before what it begins.
-- Assumes nothing.
use Rattle.std.specs.Prelude.{ℕ, Bool, true, false, ◌&&◌, ◌||◌, List, [], ◌∷◌, eqb, ltb}

abbrev pub is_before : List ℕ → List ℕ → Bool
is_before [] [] = false
is_before [] (y ∷ ys) = true
is_before (x ∷ xs) [] = false
is_before (x ∷ xs) (y ∷ ys) = ltb x y || (eqb x y && is_before xs ys)

-- x stands before the first of the strings, if there is one
abbrev pub leads : List ℕ → List (List ℕ) → Bool
leads x [] = true
leads x (y ∷ ys) = is_before x y

-- each string stands before the next
abbrev pub ascending : List (List ℕ) → Bool
ascending [] = true
ascending (x ∷ xs) = leads x xs && ascending xs
