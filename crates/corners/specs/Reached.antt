-- The input that takes the most nodes: b, then nine times i u s div, no two of the tags equal, end b.
-- Assumes nothing.
use Rattle.std.specs.Prelude.{ℕ, zero, suc, List, [], ◌∷◌, ◌++◌, None}
use Rattle.names.specs.Tag as tag
use Rattle.state.specs.Full.{Full}
use Rattle.standard.specs.Begin.{begin_state, begin_nodes, begin_modes}
use Rattle.standard.specs.Run.{Ran}
use Rattle.edge.specs.Public.{whole}
use Rattle.corners.specs.Records.{element, formatting, end}
use Rattle.corners.specs.Seen.{lent, bytes_of}

-- 4 with one attribute, a host's name, whose value is v
abbrev pub formatting_with : ℕ → ℕ → List ℕ
formatting_with name v = 4 ∷ name ∷ 1 ∷ 600 ∷ v ∷ []

-- k times i u s div, each time with another value
unfoldable pub times : ℕ → List (List ℕ)
times zero = []
times (suc k) = formatting_with tag.i k ∷ formatting_with tag.u k ∷ formatting_with tag.s k ∷ element tag.div ∷ times k

-- up to the end tag, and with it
unfoldable pub nested : List ℕ
nested = bytes_of (formatting tag.b ∷ times 9)

unfoldable pub ended : List ℕ
ended = nested ++ bytes_of (end tag.b ∷ [])

-- the answer of a run, and how many nodes are used after it
unfoldable pub gives : Ran → ℕ × ℕ
gives r = (r.answer, r.after.nodes.used)

-- a document in 72 slots for nodes, of which 32 are free before the end tag; 32 places for the list, and 32 pairs
unfoldable pub fresh : Full
fresh = whole (begin_state None) (begin_nodes (lent 2304)) (lent 32) (begin_modes (lent 8) None) (lent 32) (lent 128)
