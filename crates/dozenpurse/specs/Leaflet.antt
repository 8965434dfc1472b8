-- What the program does before it prints (document 01, records and dump): a document is begun in its memory, and the input is run, 16,384
-- bytes of it at most; more counts as a cut record at the end.
-- Assumes nothing.
use Rattle.std.specs.Prelude.{ℕ, min, cond, List, length, take, eqb, ltb, None}
use Rattle.state.specs.Full.{Full}
use Rattle.standard.specs.Begin.{begin_state, begin_nodes, begin_modes}
use Rattle.standard.specs.Run.{Ran, run_of}
use Rattle.edge.specs.Public.{whole}

-- the state after the begin, from the lent nodes, list, modes, pieces and pairs
unfoldable pub begun_in : List ℕ → List ℕ → List ℕ → List ℕ → List ℕ → Full
begun_in n l m p q = whole (begin_state None) (begin_nodes n) l (begin_modes m None) p q

-- what is run of a buffer of which the first k bytes are the input
unfoldable pub input_of : List ℕ → ℕ → List ℕ
input_of buffer k = take (min (min k 16384) (length buffer)) buffer

-- the answer, where there were k bytes of input
unfoldable pub cut_answer : ℕ → ℕ → ℕ
cut_answer answer k = cond (eqb answer 0) (cond (ltb 16384 k) 9 0) answer

-- what is printed: the answer, how many records were done, and the tree in the nodes, pieces and pairs
pub record Leaflet : Type 0 where
  pub answer : ℕ
  pub records : ℕ
  pub nodes : List ℕ
  pub pieces : List ℕ
  pub pairs : List ℕ

abbrev pub leaflet : ℕ → ℕ → List ℕ → List ℕ → List ℕ → Leaflet
leaflet a d n p q = record { answer = a; records = d; nodes = n; pieces = p; pairs = q }

abbrev pub printed : Ran → ℕ → Leaflet
printed r k = leaflet (cut_answer r.answer k) r.done r.after.nodes.mem r.after.pieces.mem r.after.pairs.mem

abbrev pub leaflet_of : List ℕ → ℕ → List ℕ → List ℕ → List ℕ → List ℕ → List ℕ → Leaflet
leaflet_of buffer k n l m p q = printed (run_of (input_of buffer k) (begun_in n l m p q)) k
