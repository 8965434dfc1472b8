-- A row that is right says what the code does: the promises of `run` and of `reset_insertion_mode`, from the row's begin on, allow what
-- the row shows, and nothing else.
-- Assumes nothing.
use Rattle.std.proofs.Common.{◌≡◌, refl, ap, ◌∙◌, true, Result as OkOrErr}
use Rattle.theory.specs.Says.{says_yes}
use Rattle.records.specs.declared.refusal.Refusal.{Refusal}
use Rattle.sound.specs.State.{SoundFull}
use Rattle.standard.specs.Begin.{begin_state}
use Rattle.standard.specs.Run.{Ran, ran}
use Rattle.kept.specs.Begin.{begin_sound}
use Rattle.kept.specs.Step.{runs_sound}
use Rattle.edge.specs.Public.{whole, Checked}
use Rattle.edge.proofs.Complete.{checked_one}
use Rattle.queries.specs.declared.reset.Mode.{Mode}
use Rattle.queries.specs.Told.{asked, refused}
use Rattle.queries.specs.Reset.{mode_number, reset_mode}
use Rattle.corners.specs.Seen.{Seen, seen_after, Row, begin_gives, begun, bytes_of, run_of_all, before_last, Fits}

-- what `run` may give in the state after the begin, and `reset_insertion_mode` in the state after the run
pub record Allowed (r : Row) (a : Ran) (q : OkOrErr Mode Refusal) : Type 0 where
  pub run : Checked (SoundFull (begun r)) a (run_of_all r) (ran 1 0 (begun r))
  pub reset : Checked (SoundFull a.after) (asked mode_number q) (reset_mode a.after) (refused 1)

begun_sound : (r : Row) → begin_gives r ≡ 0 → SoundFull (begun r)
unfolding begun begin_gives whole begin_state
begun_sound r e = begin_sound _ _ _ _ _ r.context e

-- on a state that the check passes a promise allows what the definition gives
one : {P : Type 0} {A : Type 0} {a y n : A} → P → Checked P a y n → a ≡ y
one p w = checked_one w (record { ok = true; says = says_yes p; is = refl })

pub promised : (r : Row) → Fits r → (a : Ran) (q : OkOrErr Mode Refusal) → Allowed r a q → (seen_after (before_last r) a ≡ r.after) × (asked mode_number q ≡ r.after.mode)
unfolding seen_after
promised r h a q w =
    let ok = begun_sound r h.begins in
    let e : a ≡ run_of_all r = one ok w.run in
    let s : seen_after (before_last r) a ≡ r.after = ap (seen_after (before_last r)) e ∙ h.sees in
    let after : SoundFull a.after = rw e (runs_sound (bytes_of r.records) (begun r) ok) in
    (s, one after w.reset ∙ ap (λ (x : Seen). x.mode) s)
