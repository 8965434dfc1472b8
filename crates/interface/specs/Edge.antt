-- The single calls as a host makes them, on any record and any lent memory: what is promised of each, and what that comes to.
-- Assumes nothing.
use Rattle.std.specs.Prelude.{ℕ, ◌≡◌, ◌≢◌, List, Ok, Err}
use Rattle.records.specs.declared.refusal.Refusal.TheVariants as refusal
use Rattle.records.specs.Record.{item_at, Item}
use Rattle.state.specs.Full.{Full, result_of, refused}
use Rattle.sound.specs.State.{SoundFull}
use Rattle.standard.specs.Run.{single}
use Rattle.edge.specs.Public.{Checked}
use Rattle.queries.specs.Told.{Asked}
use Rattle.queries.specs.Told as told
use Rattle.interface.specs.Questions.{Question, answer_of}
use Rattle.interface.specs.Calls.{Call, numbered, question, Effect, effect, Settled}

-- a record alone, at the front of this input; or a question
pub data Alone : Type 0 where
  by_record : List ℕ → Alone
  by_question : Question → Alone

abbrev pub asks : ℕ → ℕ → Asked
asks k v = record { answer = k; value = v }

-- the contracts of `calls::run::call` and of the four questions, for f the record and the lent memory as one state
abbrev pub Allows : Alone → Full → Effect → Type 0
Allows (by_record s) f o = Checked (SoundFull f) (result_of o.answer o.after) (single s f) (refused 1 f) × (o.value ≡ 0)
Allows (by_question q) f o = Checked (SoundFull f) (asks o.answer o.value) (answer_of q f) (told.refused 1) × (o.after ≡ f)

-- what it is: a call, an unknown call, or a record that is cut short or badly written
pub data Meant : Type 0 where
  call : Call → Meant
  unknown : Meant
  broken : Meant

unfoldable pub item_means : Item → List ℕ → Meant
item_means (Ok (r, next)) s = call (numbered s r)
item_means (Err refusal.Unknown) s = unknown
item_means (Err k) s = broken

unfoldable pub means : Alone → Meant
means (by_record s) = item_means (item_at s 0) s
means (by_question q) = call (question q)

-- on a sound state
abbrev pub SettledAs : Meant → Full → Effect → Type 0
SettledAs (call c) f o = Settled c f o
SettledAs unknown f o = o ≡ effect 2 0 f
SettledAs broken f o = o ≡ effect 9 0 f

pub record AtEdge (c : Alone) (f : Full) (o : Effect) : Type 0 where
  -- answer 1 is given exactly if the state is not sound
  pub unsound : ¬ SoundFull f → o ≡ effect 1 0 f
  pub one : o.answer ≡ 1 → ¬ SoundFull f
  -- a call that is refused, with whatever answer, changes nothing and has no value
  pub kept : o.answer ≢ 0 → o ≡ effect o.answer 0 f
  pub settled : SoundFull f → SettledAs (means c) f o
