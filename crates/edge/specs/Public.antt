-- The public edge: the record and the lent memory as one state, and what a call that checks first gives.
-- Assumes nothing.
use Rattle.std.specs.Prelude.{ℕ, ◌≡◌, List, Bool, cond}
use Rattle.theory.specs.Says.{Says}
use Rattle.state.specs.declared.State.{State}
use Rattle.state.specs.declared.lent.Lent.{Lent}
use Rattle.state.specs.declared.lent.Seen.{Seen}
use Rattle.state.specs.Fields.{core_of}
use Rattle.state.specs.Full.{Full, full}

-- the state that a record and the lent nodes, list, modes, pieces and pairs hold
unfoldable pub whole : State → List ℕ → List ℕ → List ℕ → List ℕ → List ℕ → Full
whole st n l m p q = full st.stack.handles (core_of st) st.context n l m p q

-- the same with what is lent in a struct, to be changed or to be read
abbrev pub whole_in : State → Lent → Full
whole_in st m = whole st m.nodes.now m.list.now m.modes.now m.pieces.now m.pairs.now

abbrev pub whole_seen : State → Seen → Full
whole_seen st s = whole st s.nodes.now s.list.now s.modes.now s.pieces.now s.pairs.now

-- a is `yes` if P holds, and `no` if it does not: the check says which
pub record Checked (P : Type 0) {A : Type 0} (a yes no : A) : Type 0 where
  pub ok : Bool
  pub says : Says P ok
  pub is : a ≡ cond ok yes no
