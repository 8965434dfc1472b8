-- A run of records: the record at the front is decoded and done, and the run goes on behind it; the first refusal ends it.
-- Assumes nothing.
use Rattle.std.specs.Prelude.{ℕ, zero, suc, ◌+◌, ◌-◌, List, cond, length, ltb, eqb, Ok, Err}
use Rattle.records.specs.declared.Record.{Record}
use Rattle.records.specs.Refusal.{number_of}
use Rattle.records.specs.Record.{item_at, Item}
use Rattle.state.specs.Full.{Full, Result, refused}
use Rattle.standard.specs.Step.{step}

-- the answer, how many records were done, and the state after them
pub record Ran : Type 0 where
  pub answer : ℕ
  pub done : ℕ
  pub after : Full

abbrev pub ran : ℕ → ℕ → Full → Ran
ran k n f = record { answer = k; done = n; after = f }

-- go on unless the call was refused
unfoldable pub unless_refused : Result → ℕ → (Full → Ran) → Ran
unless_refused r n next = cond (eqb r.answer 0) (next r.after) (ran r.answer n r.after)

-- an unknown call answers 2, a record that is cut short or badly written 9
unfoldable pub on_item : Item → ℕ → Full → (Record → ℕ → Ran) → Ran
on_item (Ok (r, next)) n f go = go r next
on_item (Err k) n f go = ran (number_of k) n f

-- from byte i on, n records being done: at most k more records
unfoldable pub run_for : ℕ → List ℕ → ℕ → ℕ → Full → Ran
run_for zero s i n f = ran 0 n f
run_for (suc k) s i n f =
    cond (ltb i (length s))
    (on_item (item_at s i) n f (λ (r : Record) (next : ℕ). unless_refused (step s r f) n (run_for k s next (n + 1))))
    (ran 0 n f)

-- a record has a byte at least, so there are no more records than bytes
unfoldable pub run_from : List ℕ → ℕ → ℕ → Full → Ran
run_from s i n f = run_for (length s - i) s i n f

unfoldable pub run_of : List ℕ → Full → Ran
run_of s f = run_from s 0 0 f

-- a single call, given as a record: the record at the front
unfoldable pub on_single : Item → List ℕ → Full → Result
on_single (Ok (r, next)) s f = step s r f
on_single (Err k) s f = refused (number_of k) f

unfoldable pub single : List ℕ → Full → Result
single s f = on_single (item_at s 0) s f
