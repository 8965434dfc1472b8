use Rattle.std.proofs.Common.{ℕ, ◌≡◌, List, replicate, None}
use Rattle.state.specs.declared.State.{State}
use Rattle.state.specs.Fields.{empty_state}
use Rattle.state.proofs.State.empty.Goals as goal

with_stack_lem : (h : List ℕ) (d : ℕ) → h ≡ replicate 512 0 → d ≡ 0
    → ◌≡◌ {A = State}
    (record { stack = record { handles = h; depth = d }; counts = record { nodes = 0; pieces = 0; pairs = 0; list = 0; modes = 0 }; flags = record { foster = 0; head = 0 }; context = None })
    empty_state
unfolding empty_state
with_stack_lem h d e e' = rw (e, e')

pub returns : goal.returns
returns c = with_stack_lem _ _ c.empty.ensures.0 c.empty.ensures.1
