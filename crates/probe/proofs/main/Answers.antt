use Rattle.std.proofs.Common.{sym, ℕ}
use Rattle.std.proofs.lemmas.List.{length-replicate}
use Rattle.probe.proofs.main.Goals as goal

pub slice_bounds-serve-end-2 : goal.slice_bounds-serve-end-2
slice_bounds-serve-end-2 c = sym (length-replicate {0} {A = ℕ} 524288 0)
