-- The records that the rows are made of, each as its numbers.
-- Assumes nothing.
use Rattle.std.specs.Prelude.{ℕ, List, [], ◌∷◌}
use Rattle.names.specs.Space as space

-- 1: an HTML element, pushed, without attributes
abbrev pub element : ℕ → List ℕ
element name = 1 ∷ space.html ∷ name ∷ 1 ∷ 0 ∷ []

-- 2: text
abbrev pub words : ℕ → List ℕ
words n = 2 ∷ n ∷ []

-- 4: a formatting element without attributes
abbrev pub formatting : ℕ → List ℕ
formatting name = 4 ∷ name ∷ 0 ∷ []

-- 5: a marker
abbrev pub marker : List ℕ
marker = 5 ∷ []

-- 8: adoption, for the end tag with this name
abbrev pub end : ℕ → List ℕ
end name = 8 ∷ name ∷ []

-- 14: pop
abbrev pub pop : List ℕ
pop = 14 ∷ []

-- 15: foster parenting on
abbrev pub foster : List ℕ
foster = 15 ∷ 1 ∷ []
