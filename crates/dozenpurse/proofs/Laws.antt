-- From the promises of `begin` and `run` to what the program prints. The begin is done: there are nodes for it.
-- Assumes nothing.
use Rattle.std.proofs.Common.{ℕ, min, ◌≡◌, refl, ap, ◌∙◌, true, List, arith, length, take, le-ltb, None}
use Rattle.lent.specs.Mem.{slots}
use Rattle.lent.specs.Room.{free_nodes}
use Rattle.theory.specs.Says.{says_yes}
use Rattle.sound.specs.State.{SoundFull}
use Rattle.state.specs.declared.State.{State}
use Rattle.standard.specs.Begin.{bad_context, is_template_context, first_modes, Begun, begun, begin_answer, begin_nodes, begin_modes, begin_state, begin_of}
use Rattle.standard.specs.Run.{Ran, ran, run_of}
use Rattle.kept.specs.Begin.{begin_sound}
use Rattle.edge.specs.Public.{whole, Checked}
use Rattle.edge.proofs.Complete.{checked_one}
use Rattle.dozenpurse.specs.Leaflet.{begun_in, input_of, cut_answer, leaflet, printed, leaflet_of}

-- 2,048 nodes are room for a begin
pub begin_can : (n m : List ℕ) → length n ≡ 65568 → begin_answer n m None ≡ 0
unfolding begin_answer bad_context first_modes is_template_context free_nodes slots
begin_can n m e = rw (e, le-ltb (min (length m) 64) 0 (omega arith))

pub input_is : (buffer : List ℕ) (k : ℕ) {x : ℕ} → x ≡ min (min k 16384) (length buffer) → take x buffer ≡ input_of buffer k
unfolding input_of
input_is buffer k e = rw e

module _ (n l m p q : List ℕ) (ok : begin_answer n m None ≡ 0) where
  -- the state after the begin is sound
  begun_sound : SoundFull (begun_in n l m p q)
  unfolding begun_in whole begin_state
  begun_sound = begin_sound n l m p q None ok

  -- v is what the begin gives, and st the record that is run on
  module _ (st₀ v : State) {b : ℕ} {st : State} {n₁ m₁ : List ℕ} (is : st ≡ v) (eb : begun b v n₁ m₁ ≡ begin_of st₀ n m None) where
    begins : begun b st n₁ m₁ ≡ begun 0 (begin_state None) (begin_nodes n) (begin_modes m None)
    unfolding begin_of
    begins = rw is (eb ∙ rw ok)

    begun_is : whole st n₁ l m₁ p q ≡ begun_in n l m p q
    unfolding begun_in
    begun_is = ap (λ (x : Begun). whole x.state x.nodes l x.modes p q) begins

    pub leaflet_is : (buffer s : List ℕ) (k : ℕ) {a d r : ℕ} → s ≡ input_of buffer k → (st' : State) (n' l' m' p' q' : List ℕ)
        → Checked (SoundFull (whole st n₁ l m₁ p q)) (ran a d (whole st' n' l' m' p' q')) (run_of s (whole st n₁ l m₁ p q)) (ran 1 0 (whole st n₁ l m₁ p q))
        → r ≡ cut_answer a k
        → leaflet r d n' p' q' ≡ leaflet_of buffer k n l m p q
    unfolding whole
    leaflet_is buffer s k {a} {d} es st' n' l' m' p' q' w er =
        let e : ran a d (whole st' n' l' m' p' q') ≡ run_of (input_of buffer k) (begun_in n l m p q) = checked_one (rw (begun_is, es) at w) (record { ok = true; says = says_yes begun_sound; is = refl }) in
        rw er (ap (λ (x : Ran). printed x k) e)
