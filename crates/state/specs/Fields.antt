-- The record's fields: a writer of each. Nothing else names the record's parts, so a new field touches these writers alone.
-- Assumes nothing.
use Rattle.std.specs.Prelude.{ℕ, List, replicate, None, Option}
use Rattle.state.specs.declared.Core.{Core}
use Rattle.state.specs.declared.Counts.{Counts}
use Rattle.state.specs.declared.Flags.{Flags}
use Rattle.state.specs.declared.State.{State}
use Rattle.state.specs.declared.Context.{Context}

unfoldable pub set_depth : Core → ℕ → Core
set_depth c n = record { depth = n; counts = c.counts; flags = c.flags }

unfoldable pub set_counts : Core → Counts → Core
set_counts c x = record { depth = c.depth; counts = x; flags = c.flags }

unfoldable pub set_flags : Core → Flags → Core
set_flags c x = record { depth = c.depth; counts = c.counts; flags = x }

unfoldable pub set_nodes : Core → ℕ → Core
set_nodes c n =
    set_counts c (record { nodes = n; pieces = c.counts.pieces; pairs = c.counts.pairs; list = c.counts.list; modes = c.counts.modes })

unfoldable pub set_pieces : Core → ℕ → Core
set_pieces c n =
    set_counts c (record { nodes = c.counts.nodes; pieces = n; pairs = c.counts.pairs; list = c.counts.list; modes = c.counts.modes })

unfoldable pub set_pairs : Core → ℕ → Core
set_pairs c n =
    set_counts c (record { nodes = c.counts.nodes; pieces = c.counts.pieces; pairs = n; list = c.counts.list; modes = c.counts.modes })

unfoldable pub set_list : Core → ℕ → Core
set_list c n =
    set_counts c (record { nodes = c.counts.nodes; pieces = c.counts.pieces; pairs = c.counts.pairs; list = n; modes = c.counts.modes })

unfoldable pub set_modes : Core → ℕ → Core
set_modes c n =
    set_counts c (record { nodes = c.counts.nodes; pieces = c.counts.pieces; pairs = c.counts.pairs; list = c.counts.list; modes = n })

unfoldable pub set_foster : Core → ℕ → Core
set_foster c n = set_flags c (record { foster = n; head = c.flags.head })

unfoldable pub set_head : Core → ℕ → Core
set_head c n = set_flags c (record { foster = c.flags.foster; head = n })

-- the record taken apart and put together
unfoldable pub core_of : State → Core
core_of st = record { depth = st.stack.depth; counts = st.counts; flags = st.flags }

unfoldable pub state_of : List ℕ → Core → Option Context → State
state_of h c x = record { stack = record { handles = h; depth = c.depth }; counts = c.counts; flags = c.flags; context = x }

-- nothing is open and nothing used
unfoldable pub empty_state : State
empty_state =
    record {
      stack = record { handles = replicate 512 0; depth = 0 };
      counts = record { nodes = 0; pieces = 0; pairs = 0; list = 0; modes = 0 };
      flags = record { foster = 0; head = 0 };
      context = None;
    }
