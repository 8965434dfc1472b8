use Rattle.std.proofs.Common.{◌≤◌, ◌-◌, ◌≡◌, length}
use Rattle.sound.specs.State.{SoundFull}
use Rattle.state.specs.Builder.{SameLoans, full_of}
use Rattle.standard.specs.Run.{run_from}
use Rattle.calls.proofs.run_all.Given as goal

abbrev pub invariant-loop-at : goal.invariant-loop-at
invariant-loop-at l =
    record {
      loans : SameLoans l.initial.b l.b;
      sound : SoundFull (full_of l.b);
      same : run_from l.input l.at l.done (full_of l.b) ≡ run_from l.input 0 0 (full_of l.initial.b);
      fewer : l.done ≤ l.at;
    }

abbrev pub decreases-loop-at : goal.decreases-loop-at
decreases-loop-at l = length l.input - l.at
