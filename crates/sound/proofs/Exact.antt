-- The contract of `sound::sound`, `Says (Sound ..) r`, in both directions: the answer r is yes exactly where the state is sound,
-- and there is only one answer that the contract allows.
-- Assumes nothing.
use Rattle.std.proofs.Common.{◌≡◌, refl, sym, Bool, true, false, ◌↔◌, List, ℕ, Option}
use Rattle.theory.specs.Says.{Says}
use Rattle.state.specs.declared.Context.{Context}
use Rattle.sound.specs.Sound.{Sound}

-- the same of any rule and any test of it
yes_of : {P : Type 0} (r : Bool) → Says P r → P → r ≡ true
yes_of true s p = refl
yes_of false s p = absurd (s.bad refl p)

no_of : {P : Type 0} (r : Bool) → Says P r → ¬ P → r ≡ false
no_of true s n = absurd (n (s.good refl))
no_of false s n = refl

same_of : {P : Type 0} (a b : Bool) → Says P a → Says P b → a ≡ b
same_of true b s t = sym (yes_of b t (s.good refl))
same_of false b s t = sym (no_of b t (s.bad refl))

module _ {m p q l f t : List ℕ} {c v u d k s foster head : ℕ} {x : Option Context} {r : Bool} (said : Says (Sound m p q l f t c v u d k s foster head x) r) where
  -- yes: the state is sound
  pub sound_yes : r ≡ true → Sound m p q l f t c v u d k s foster head x
  sound_yes = said.good

  -- no: it is not
  pub sound_no : r ≡ false → ¬ Sound m p q l f t c v u d k s foster head x
  sound_no = said.bad

  -- so the answer is yes exactly to a sound state
  pub sound_exact : (r ≡ true) ↔ Sound m p q l f t c v u d k s foster head x
  sound_exact = (sound_yes, yes_of r said)

  -- any other answer that the contract allows is the same
  pub sound_one : (a : Bool) → Says (Sound m p q l f t c v u d k s foster head x) a → a ≡ r
  sound_one a other = same_of a r other said
