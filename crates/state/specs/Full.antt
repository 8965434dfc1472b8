-- The whole state as the definitions of the calls see it: the record and the lent memory together.
-- Assumes nothing.
use Rattle.std.specs.Prelude.{ℕ, List, Option}
use Rattle.places.specs.Places.{Places, places_of}
use Rattle.state.specs.declared.Core.{Core}
use Rattle.state.specs.declared.Flags.{Flags}
use Rattle.state.specs.declared.Context.{Context}

-- lent bytes, and how many of their slots are used
pub record Region : Type 0 where
  pub mem : List ℕ
  pub used : ℕ

pub record Full : Type 0 where
  -- the stack of open elements, the list of active formatting elements, the stack of template insertion modes
  pub stack : Places
  pub list : Places
  pub modes : Places
  pub nodes : Region
  pub pieces : Region
  pub pairs : Region
  pub flags : Flags
  pub context : Option Context

-- what the places of the stack, the record, and the lent nodes, list, modes, pieces and pairs hold
abbrev pub full : List ℕ → Core → Option Context → List ℕ → List ℕ → List ℕ → List ℕ → List ℕ → Full
full s c x n l m p q =
    record {
      stack = places_of s c.depth;
      list = places_of l c.counts.list;
      modes = places_of m c.counts.modes;
      nodes = record { mem = n; used = c.counts.nodes };
      pieces = record { mem = p; used = c.counts.pieces };
      pairs = record { mem = q; used = c.counts.pairs };
      flags = c.flags;
      context = x;
    }

-- one part of it changed
unfoldable pub with_stack : Full → Places → Full
with_stack f x =
    record { stack = x; list = f.list; modes = f.modes; nodes = f.nodes; pieces = f.pieces; pairs = f.pairs; flags = f.flags; context = f.context }

unfoldable pub with_list : Full → Places → Full
with_list f x =
    record { stack = f.stack; list = x; modes = f.modes; nodes = f.nodes; pieces = f.pieces; pairs = f.pairs; flags = f.flags; context = f.context }

unfoldable pub with_modes : Full → Places → Full
with_modes f x =
    record { stack = f.stack; list = f.list; modes = x; nodes = f.nodes; pieces = f.pieces; pairs = f.pairs; flags = f.flags; context = f.context }

unfoldable pub with_nodes : Full → List ℕ → ℕ → Full
with_nodes f m n =
    record { stack = f.stack; list = f.list; modes = f.modes; nodes = record { mem = m; used = n }; pieces = f.pieces; pairs = f.pairs; flags = f.flags; context = f.context }

unfoldable pub with_pieces : Full → List ℕ → ℕ → Full
with_pieces f m n =
    record { stack = f.stack; list = f.list; modes = f.modes; nodes = f.nodes; pieces = record { mem = m; used = n }; pairs = f.pairs; flags = f.flags; context = f.context }

unfoldable pub with_pairs : Full → List ℕ → ℕ → Full
with_pairs f m n =
    record { stack = f.stack; list = f.list; modes = f.modes; nodes = f.nodes; pieces = f.pieces; pairs = record { mem = m; used = n }; flags = f.flags; context = f.context }

unfoldable pub with_flags : Full → Flags → Full
with_flags f x =
    record { stack = f.stack; list = f.list; modes = f.modes; nodes = f.nodes; pieces = f.pieces; pairs = f.pairs; flags = x; context = f.context }

-- a call's answer, and the state after it
pub record Result : Type 0 where
  pub answer : ℕ
  pub after : Full

abbrev pub result_of : ℕ → Full → Result
result_of k f = record { answer = k; after = f }

-- a refused call changes nothing
abbrev pub refused : ℕ → Full → Result
refused k f = result_of k f

abbrev pub done : Full → Result
done f = result_of 0 f
