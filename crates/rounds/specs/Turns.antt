-- What a round of the agency ends in, as the code returns it, and what further rounds make of it.
-- Assumes nothing.
use Rattle.std.specs.Prelude.{ℕ, Bool, cond}
use Rattle.state.specs.Full.{Full}
use Rattle.standard.specs.Adoption.{Turn, rounds}

abbrev pub turn_of : Bool → Full → Turn
turn_of again f = record { after = f; again = again }

-- after the round t, k more at most
unfoldable pub further : Turn → ℕ → ℕ → Full
further t name k = cond t.again (rounds t.after name k) t.after
