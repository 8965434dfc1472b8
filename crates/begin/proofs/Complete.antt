-- The promise of `begin` allows one result only: answer, record, nodes and modes.
-- Assumes nothing.
use Rattle.std.proofs.Common.{ℕ, ◌≡◌, ap, sym, ◌∙◌, List}
use Rattle.state.specs.declared.State.{State}
use Rattle.standard.specs.Begin.{Begun, begun}

pub begin_one : (y : Begun) {k k' : ℕ} {st st' : State} {n n' m m' : List ℕ} → begun k st n m ≡ y → begun k' st' n' m' ≡ y → (k ≡ k') × (st ≡ st') × (n ≡ n') × (m ≡ m')
begin_one y e f =
    let g = e ∙ sym f in
    (ap (λ (b : Begun). b.answer) g, ap (λ (b : Begun). b.state) g, ap (λ (b : Begun). b.nodes) g, ap (λ (b : Begun). b.modes) g)
