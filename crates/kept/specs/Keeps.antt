-- A call whose state afterwards is sound; and tests, taken apart.
-- Assumes nothing.
use Rattle.std.specs.Prelude.{◌≡◌, refl, Bool, true, false, cond, ◌&&◌, ◌||◌}
use Rattle.state.specs.Full.{Result}
use Rattle.sound.specs.State.{SoundFull}

pub record Keeps (r : Result) : Type 0 where
  pub sound : SoundFull r.after

-- what holds after either answer holds after the test
pub either : (b : Bool) {x y : Result} → (b ≡ true → Keeps x) → (b ≡ false → Keeps y) → Keeps (cond b x y)
either true g h = g refl
either false g h = h refl

pub or_false : (a b : Bool) → (a || b) ≡ false → (a ≡ false) × (b ≡ false)
or_false true b e = (e, cc)
or_false false b e = (refl, e)

pub and_true : (a b : Bool) → (a && b) ≡ true → (a ≡ true) × (b ≡ true)
and_true true b e = (refl, e)
and_true false b e = (e, cc)
