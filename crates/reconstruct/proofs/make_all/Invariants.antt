use Rattle.std.proofs.Common.{◌-◌, ◌≡◌}
use Rattle.state.specs.Builder.{SameLoans, full_of}
use Rattle.standard.specs.Formatting.{anew}
use Rattle.reconstruct.proofs.Laws.{Room}
use Rattle.reconstruct.proofs.make_all.Given as goal

abbrev pub invariant-loop-i : goal.invariant-loop-i
invariant-loop-i l = record {
  loans : SameLoans l.initial.b l.b;
  room : Room (full_of l.b) l.i l.count;
  all : anew (full_of l.initial.b) l.first (l.count - l.first) ≡ anew (full_of l.b) l.i (l.count - l.i);
}
