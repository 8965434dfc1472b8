-- Numbered places of which the first are in use: the stack of open elements, the list of active formatting elements and the
-- stack of template insertion modes. `held` is what is in use, in order, `size` how many that are, and `free` what the places
-- after them hold. A place that is given up is set to 0.
-- Assumes nothing.
use Rattle.std.specs.Prelude.{ℕ, zero, suc, ◌+◌, ◌-◌, ◌≡◌, Bool, false, cond, List, [], ◌∷◌, ◌++◌, length, get_or, take, drop, set, replicate, eqb, ltb, None, Option, Some}

pub record Places : Type 0 where
  pub held : List ℕ
  pub free : List ℕ
  pub size : ℕ

-- the places s of which the first d are in use
abbrev pub places_of : List ℕ → ℕ → Places
places_of s d = record { held = take d s; free = drop d s; size = d }

-- as many are in use as there should be: the lent places were not fewer
pub record Whole (p : Places) : Type 0 where
  pub all : p.size ≡ length p.held

-- what stands at place i
unfoldable pub at : Places → ℕ → ℕ
at p i = get_or p.held i 0

-- entry i leaves
unfoldable pub without : Places → ℕ → Places
without p i = record { held = take i p.held ++ drop (i + 1) p.held; free = 0 ∷ p.free; size = p.size - 1 }

-- entry i leaves, if there is one
unfoldable pub without_any : Places → ℕ → Places
without_any p i = cond (ltb i p.size) (without p i) p

-- n comes in as the last entry
unfoldable pub pushed : Places → ℕ → Places
pushed p n = record { held = p.held ++ n ∷ []; free = drop 1 p.free; size = p.size + 1 }

-- n comes in as entry i
unfoldable pub within : Places → ℕ → ℕ → Places
within p i n = record { held = take i p.held ++ (n ∷ drop i p.held); free = drop 1 p.free; size = p.size + 1 }

-- n takes the place of entry i
unfoldable pub swapped : Places → ℕ → ℕ → Places
swapped p i n = record { held = set p.held i n; free = p.free; size = p.size }

-- entry i and all after it leave
unfoldable pub cut : Places → ℕ → Places
cut p i = record { held = take i p.held; free = replicate (length p.held - i) 0 ++ p.free; size = i }

-- the last of the first k entries of xs that has `hit`, unless one that has `stop` stands after it
unfoldable pub down : (ℕ → Bool) → (ℕ → Bool) → List ℕ → ℕ → Option ℕ
down hit stop xs zero = None
down hit stop xs (suc k) = cond (hit (get_or xs k 0)) (Some k) (cond (stop (get_or xs k 0)) None (down hit stop xs k))

-- what was found first, or else the other
unfoldable pub first_of : Option ℕ → Option ℕ → Option ℕ
first_of (Some i) other = Some i
first_of None other = other

-- the first entry of xs that has p, where the entries of xs are numbered from k on
unfoldable pub first_with : (ℕ → Bool) → List ℕ → ℕ → Option ℕ
first_with p [] k = None
first_with p (x ∷ xs) k = cond (p x) (Some k) (first_with p xs (k + 1))

abbrev pub never : ℕ → Bool
never x = false

abbrev pub same : ℕ → ℕ → Bool
same n x = eqb x n

unfoldable pub last_with : (ℕ → Bool) → (ℕ → Bool) → Places → Option ℕ
last_with hit stop p = down hit stop p.held (length p.held)

-- where n stands
unfoldable pub place_of : Places → ℕ → Option ℕ
place_of p n = last_with (same n) never p

-- n comes right after entry i, if there is one
unfoldable pub after_at : Option ℕ → Places → ℕ → Places
after_at None p n = p
after_at (Some i) p n = within p (i + 1) n

-- entry j leaves, if there is one, and n comes right after x
unfoldable pub exchanged_at : Option ℕ → Places → ℕ → ℕ → Places
exchanged_at None p x n = p
exchanged_at (Some j) p x n = after_at (place_of (without p j) x) (without p j) n

-- f leaves and n comes right after x
unfoldable pub exchanged : Places → ℕ → ℕ → ℕ → Places
exchanged p f x n = exchanged_at (place_of p f) p x n

unfoldable pub renamed_at : Option ℕ → Places → ℕ → Places
renamed_at None p n = p
renamed_at (Some j) p n = swapped p j n

-- n takes the place of f
unfoldable pub renamed : Places → ℕ → ℕ → Places
renamed p f n = renamed_at (place_of p f) p n

unfoldable pub left_at : Option ℕ → Places → Places
left_at None p = p
left_at (Some j) p = without p j

-- n leaves, if it is there
unfoldable pub left : Places → ℕ → Places
left p n = left_at (place_of p n) p
