-- Going up from a used node leads to a used node or to none, by the rules on links and kinds. Assumes nothing.
use Rattle.std.proofs.Common.{◌≡◌, cond, List, ℕ, ◌≤◌, ◌<◌, eq-eqb, ne_eqb, eqb}
use Rattle.std.proofs.Math.Decide.{ℕ_discrete}
use Rattle.lent.specs.Mem.{field, up, KIND, PARENT, TIE, CONTENTS}
use Rattle.theory.specs.Depth.{InRange}
use Rattle.links.specs.Links.{Children}
use Rattle.sound.specs.Sound.{Kinds}

pub in_range : {m q : List ℕ} {c u : ℕ} → Children m c → Kinds m q c u → InRange (up m) c
unfolding up
in_range {m} {q} {c} {u} k t = record { le = λ n z l. by n z l (ℕ_discrete (field m n KIND) CONTENTS) }
  where
    by : (n : ℕ) → 0 < n → n ≤ c → Dec (field m n KIND ≡ CONTENTS)
        → cond (eqb (field m n KIND) CONTENTS) (field m n TIE) (field m n PARENT) ≤ c
    by n z l (yes e) = rw (eq-eqb (field m n KIND) CONTENTS e) ((t.kind n z l).contents e).partner.used
    by n z l (no e) = rw (ne_eqb (field m n KIND) CONTENTS e) (k.parent n z l)
