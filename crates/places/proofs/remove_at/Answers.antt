use Rattle.std.proofs.Common.{ℕ, ◌-◌, refl, ap, ◌∙◌, List, arith, set}
use Rattle.places.specs.Places.{places_of}
use Rattle.places.proofs.Laws.{removed}
use Rattle.places.proofs.remove_at.Goals as goal

pub returns : goal.returns
returns c = (refl, ap (λ (x : List ℕ). places_of (set x (c.args.d - 1) 0) (c.args.d - 1)) c.copy_within.ensures.after ∙ removed c.args.s.now c.args.d c.args.i (omega arith) (omega arith))
