-- A corner as a row: a document, or a fragment with a context, is begun in lent memory, records are run, and something is seen after
-- the last of them. All of it is what the definitions give: of begin, of runs, of the dump and of the reset of the insertion mode.
-- Assumes nothing.
use Rattle.std.specs.Prelude.{ℕ, zero, suc, ◌-◌, ◌*◌, ◌≡◌, Bool, true, false, cond, List, [], ◌∷◌, ◌++◌, length, take, replicate, eqb, Option}
use Prim.Native.String.{String}
use Rattle.names.specs.Text.{text}
use Rattle.records.specs.Written.{encoded_all}
use Rattle.state.specs.declared.Context.{Context}
use Rattle.state.specs.Full.{Full}
use Rattle.standard.specs.Begin.{begin_answer, begin_state, begin_nodes, begin_modes}
use Rattle.standard.specs.Run.{Ran, run_of}
use Rattle.edge.specs.Public.{whole}
use Rattle.queries.specs.Told.{Asked}
use Rattle.queries.specs.Reset.{reset_mode}
use Rattle.dump.specs.declared.Cursor.{Cursor}
use Rattle.dump.specs.Line.{line_of}
use Rattle.dump.specs.Order.{first_line, next_line}

-- ---- what is seen

-- a line of the dump, and whose it is
pub record Line : Type 0 where
  pub node : ℕ
  pub bytes : List ℕ

-- 10 is LF
abbrev pub line : ℕ → String → Line
line n s = record { node = n; bytes = text s ++ 10 ∷ [] }

-- the lines from the one at c on, k of them at most
unfoldable pub lines_from : Full → Cursor → ℕ → List Line
lines_from f c zero = []
lines_from f c (suc k) =
    cond (eqb c.node 0) []
    (record { node = c.node; bytes = line_of f.nodes.mem f.pieces.mem f.pairs.mem c } ∷
    lines_from f (next_line f.nodes.mem c) k)

-- the tree in document order: a node without attributes has one line
unfoldable pub tree_of : Full → List Line
tree_of f = lines_from f (first_line f.nodes.mem) f.nodes.used

pub record Seen : Type 0 where
  -- the answer of the run, and how many records it did
  pub answer : ℕ
  pub done : ℕ
  -- how many nodes the last record took
  pub taken : ℕ
  -- the open elements, the formatting list, the tree
  pub stack : List ℕ
  pub list : List ℕ
  pub tree : List Line
  -- what a reset of the insertion mode then gives
  pub mode : Asked

-- from the state before the last record, and what the run gave
unfoldable pub seen_after : Full → Ran → Seen
seen_after before r =
    record {
      answer = r.answer;
      done = r.done;
      taken = r.after.nodes.used - before.nodes.used;
      stack = r.after.stack.held;
      list = r.after.list.held;
      tree = tree_of r.after;
      mode = reset_mode r.after;
    }

-- ---- rows

pub record Row : Type 0 where
  -- the fragment context, or none
  pub context : Option Context
  -- how many slots are lent for nodes; slot 0 is none
  pub slots : ℕ
  -- each record as its numbers
  pub records : List (List ℕ)
  -- before the last record: the open elements, and the formatting list
  pub opened : List ℕ
  pub listed : List ℕ
  -- after it
  pub after : Seen
  -- whether the last record changes nothing at all
  pub still : Bool

-- lent bytes and places: begin overwrites whatever they hold
unfoldable pub lent : ℕ → List ℕ
lent k = replicate k 255

-- begin's answer, and the state after it: 32 bytes a node, 8 places for the list and for the modes, 32 bytes for pieces, none for pairs
unfoldable pub begin_gives : Row → ℕ
begin_gives r = begin_answer (lent (r.slots * 32)) (lent 8) r.context

unfoldable pub begun : Row → Full
begun r =
    whole (begin_state r.context) (begin_nodes (lent (r.slots * 32))) (lent 8) (begin_modes (lent 8) r.context) (lent 32) []

unfoldable pub bytes_of : List (List ℕ) → List ℕ
bytes_of [] = []
bytes_of (r ∷ rs) = encoded_all r ++ bytes_of rs

-- the run of all records, and the state before the last of them
abbrev pub run_of_all : Row → Ran
run_of_all r = run_of (bytes_of r.records) (begun r)

abbrev pub before_last : Row → Full
before_last r = (run_of (bytes_of (take (length r.records - 1) r.records)) (begun r)).after

unfoldable pub Still : Bool → Full → Full → Type 0
Still true f g = f ≡ g
Still false f g = Unit {0}

-- the begin is done; what is seen before the last record and after it is what the row says, and where the row says so that record changes
-- nothing
pub record Fits (r : Row) : Type 0 where
  pub begins : begin_gives r ≡ 0
  pub opens : (before_last r).stack.held ≡ r.opened
  pub lists : (before_last r).list.held ≡ r.listed
  pub sees : seen_after (before_last r) (run_of_all r) ≡ r.after
  pub keeps : Still r.still (before_last r) (run_of_all r).after

unfoldable pub Right : List Row → Type 0
Right [] = Unit {0}
Right (r ∷ rs) = Fits r × Right rs
