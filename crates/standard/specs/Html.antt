-- Elements by namespace and name.
-- Assumes nothing.
use Rattle.std.specs.Prelude.{ℕ, ◌-◌, Bool, ◌&&◌, List, eqb}
use Rattle.names.specs.Space as space
use Rattle.names.specs.Sets.{is_in, FosterTargets}
use Rattle.lent.specs.Mem.{field, KIND, SPACE, NAME, ELEMENT}
use Rattle.places.specs.Places.{Places, at}

-- n is an HTML element with this name
unfoldable pub is_html : List ℕ → ℕ → ℕ → Bool
is_html m n name = eqb (field m n KIND) ELEMENT && (eqb (field m n SPACE) space.html && eqb (field m n NAME) name)

-- n is an HTML table, tbody, tfoot, thead or tr
unfoldable pub is_foster_target : List ℕ → ℕ → Bool
is_foster_target m n = eqb (field m n KIND) ELEMENT && is_in FosterTargets (field m n SPACE) (field m n NAME)

-- the current node: the bottommost of the stack, the one opened last
unfoldable pub current : Places → ℕ
current s = at s (s.size - 1)
