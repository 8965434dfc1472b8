-- A call by its number, as a record asks for it.
-- Assumes nothing.
use Rattle.std.specs.Prelude.{ℕ, cond, List, eqb, ltb}
use Rattle.records.specs.declared.Record.{Record}
use Rattle.state.specs.Full.{Full, Result, refused}
use Rattle.standard.specs.Insertion.{inserted_element, inserted_text, inserted_comment}
use Rattle.standard.specs.Small.{marked, cleared, popped, fostered, headed, moded, unmoded}
use Rattle.standard.specs.Stack.{ended, closed_p, closed_cell, implied}
use Rattle.standard.specs.Formatting.{created, reconstructed}
use Rattle.standard.specs.Adoption.{adoption, misnested}

-- an unknown call
unfoldable pub unknown : Full → Result
unknown f = refused 2 f

-- calls 8 to 13
unfoldable pub middle_step : Record → Full → Result
middle_step r f =
    cond (eqb r.call 8) (adoption f r.a)
    (cond (eqb r.call 9) (misnested f)
    (cond (eqb r.call 10) (ended f r.a)
    (cond (eqb r.call 11) (closed_p f)
    (cond (eqb r.call 12) (closed_cell f)
    (cond (eqb r.call 13) (implied f r.a r.b)
    (unknown f))))))

-- calls 1 to 13; s is the input that holds the record
unfoldable pub low_step : List ℕ → Record → Full → Result
low_step s r f =
    cond (eqb r.call 1) (inserted_element s f r.a r.b r.c r.from r.count)
    (cond (eqb r.call 2) (inserted_text f r.a)
    (cond (eqb r.call 3) (inserted_comment f r.a r.b)
    (cond (eqb r.call 4) (created s f r.a r.from r.count)
    (cond (eqb r.call 5) (marked f)
    (cond (eqb r.call 6) (cleared f)
    (cond (eqb r.call 7) (reconstructed f)
    (middle_step r f)))))))

-- calls 14 to 18
unfoldable pub high_step : Record → Full → Result
high_step r f =
    cond (eqb r.call 14) (popped f)
    (cond (eqb r.call 15) (fostered f r.a)
    (cond (eqb r.call 16) (moded f r.a)
    (cond (eqb r.call 17) (unmoded f)
    (cond (eqb r.call 18) (headed f r.a)
    (unknown f)))))

unfoldable pub step : List ℕ → Record → Full → Result
step s r f = cond (ltb r.call 14) (low_step s r f) (high_step r f)
