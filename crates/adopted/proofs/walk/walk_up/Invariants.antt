use Rattle.std.proofs.Common.{◌≡◌, ◌-◌}
use Rattle.state.specs.Builder.{SameLoans, full_of}
use Rattle.adopted.specs.Bookmark.{inner_at, inner, started}
use Rattle.adopted.proofs.WalkLaws.{Going}
use Rattle.adopted.proofs.walk.walk_up.Given as goal

abbrev pub invariant-loop-i : goal.invariant-loop-i
invariant-loop-i l = record {
  loans : SameLoans l.initial.b l.b;
  going : Going (full_of l.initial.b) (inner_at (full_of l.b) l.w.last l.w.mark) (l.at - l.i) l.i;
  walked : inner (started (full_of l.initial.b) l.fe l.block) l.fe l.block 0 l.at ≡ inner (inner_at (full_of l.b) l.w.last l.w.mark) l.fe l.block (l.at - l.i) l.i;
}
