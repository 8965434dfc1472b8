-- Every public call, what it gives back and what it may change, and what its contract promises: the words are those of the source.
-- Assumes nothing.
use Rattle.std.specs.Prelude.{ℕ, ◌-◌, min, ◌≡◌, Bool, List, length, Option, Result as OkOrErr}
use Rattle.theory.specs.Says.{Says}
use Rattle.records.specs.declared.refusal.Refusal.{Refusal}
use Rattle.records.specs.Refusal.{answer_number, value_or}
use Rattle.state.specs.declared.Context.{Context}
use Rattle.state.specs.declared.State.{State}
use Rattle.state.specs.Full.{Full, result_of, refused}
use Rattle.sound.specs.State.{SoundFull}
use Rattle.standard.specs.Begin.{begun, begin_of}
use Rattle.standard.specs.Run.{ran, run_of, single}
use Rattle.calls.specs.declared.Ran.{Ran}
use Rattle.calls.specs.declared.Single.{Single}
use Rattle.edge.specs.Public.{whole, Checked}
use Rattle.queries.specs.Told as told
use Rattle.dump.specs.declared.Cursor.{Cursor}
use Rattle.dump.specs.Line.{line_of}
use Rattle.dump.specs.Order.{first_line, next_line}
use Rattle.dump.specs.Written.{written}
use Rattle.interface.specs.Questions.{Question, Answered, asked_by, Named, answer_of}

-- a call, and what it takes by value; for begin, the record that the caller has and keeps where it is refused
pub data Public : Type 0 where
  check : State → Public
  begin : State → Option Context → Public
  run : State → Public
  call : State → Public
  ask : Question → State → Public
  start : Public
  next : Cursor → Public
  line : Cursor → Public

-- all that a host can lend: the five regions, the input of a run or a record, the buffer of a line
pub record Lent : Type 0 where
  pub nodes : List ℕ
  pub list : List ℕ
  pub modes : List ℕ
  pub pieces : List ℕ
  pub pairs : List ℕ
  pub input : List ℕ
  pub out : List ℕ

-- what it gives back; the record after a call is in it
abbrev pub Gives : Public → Type 0
Gives (check st) = Bool
Gives (begin st x) = OkOrErr State Refusal
Gives (run st) = Ran
Gives (call st) = Single
Gives (ask q st) = Answered q
Gives start = Cursor
Gives (next c) = Cursor
Gives (line c) = ℕ

-- and everything lent, after it
pub record Outcome (c : Public) : Type 0 where
  pub gives : Gives c
  pub lent : Lent

abbrev pub state_in : State → Lent → Full
state_in st m = whole st m.nodes m.list m.modes m.pieces m.pairs

-- what is read only, or not lent at all, stays
pub record Rest (m n : Lent) : Type 0 where
  pub input : n.input ≡ m.input
  pub out : n.out ≡ m.out

pub record BeginRest (m n : Lent) : Type 0 where
  pub list : n.list ≡ m.list
  pub pieces : n.pieces ≡ m.pieces
  pub pairs : n.pairs ≡ m.pairs
  pub rest : Rest m n

pub record LineRest (m n : Lent) : Type 0 where
  pub nodes : n.nodes ≡ m.nodes
  pub list : n.list ≡ m.list
  pub modes : n.modes ≡ m.modes
  pub pieces : n.pieces ≡ m.pieces
  pub pairs : n.pairs ≡ m.pairs
  pub input : n.input ≡ m.input

abbrev pub Promise : (c : Public) → Lent → Outcome c → Type 0
-- edge/src/lib.rt, is_sound
Promise (check st) m o = Says (SoundFull (state_in st m)) o.gives × (o.lent ≡ m)
-- begin/src/lib.rt, begin
Promise (begin st x) m o =
    (begun (answer_number o.gives) (value_or o.gives st) o.lent.nodes o.lent.modes ≡ begin_of st m.nodes m.modes x) × BeginRest m o.lent
-- calls/src/lib.rt, run
Promise (run st) m o =
    Checked (SoundFull (state_in st m)) (ran (answer_number o.gives.answer) o.gives.done (state_in o.gives.state o.lent)) (run_of m.input (state_in st m)) (ran 1 0 (state_in st m))
    × Rest m o.lent
-- calls/src/lib.rt, call
Promise (call st) m o =
    Checked (SoundFull (state_in st m)) (result_of (answer_number o.gives.answer) (state_in o.gives.state o.lent)) (single m.input (state_in st m)) (refused 1 (state_in st m))
    × (o.gives.taken ≡ o.gives.state.counts.nodes - st.counts.nodes)
    × Rest m o.lent
-- queries/src/reset.rt, foreign.rt, body_elem.rt, tokenizer.rt
Promise (ask q st) m o =
    Checked (SoundFull (state_in st m)) (asked_by q o.gives) (answer_of q (state_in st m)) (told.refused 1) × Named q o.gives × (o.lent ≡ m)
-- dump/src/lib.rt, start
Promise start m o = (o.gives ≡ first_line m.nodes) × (o.lent ≡ m)
-- dump/src/lib.rt, next
Promise (next c) m o = (o.gives ≡ next_line m.nodes c) × (o.lent ≡ m)
-- dump/src/lib.rt, line
Promise (line c) m o =
    (o.gives ≡ min (length (line_of m.nodes m.pieces m.pairs c)) (length m.out))
    × (o.lent.out ≡ written m.out 0 (line_of m.nodes m.pieces m.pairs c))
    × LineRest m o.lent
