use Rattle.std.proofs.Common.{ℕ, ◌+◌, refl, ap, ◌∙◌, List, arith, set}
use Rattle.places.specs.Places.{places_of}
use Rattle.places.proofs.Laws.{inserted}
use Rattle.places.proofs.insert_at.Goals as goal

pub returns : goal.returns
returns c = (refl, ap (λ (x : List ℕ). places_of (set x c.args.i c.args.n) (c.args.d + 1)) c.copy_within.ensures.after ∙ inserted c.args.s.now c.args.d c.args.i c.args.n (omega arith) (omega arith))
