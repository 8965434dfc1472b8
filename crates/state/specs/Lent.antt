-- What a host lends, to be changed and to be read.
-- Assumes nothing.
use Rattle.std.specs.Prelude.{◌≡◌}
use Rattle.state.specs.declared.lent.Lent.{Lent}
use Rattle.state.specs.declared.lent.Seen.{Seen}

-- what is read is what was lent
pub record Shows (s : Seen) (m : Lent) : Type 0 where
  pub nodes : s.nodes.now ≡ m.nodes.now
  pub list : s.list.now ≡ m.list.now
  pub modes : s.modes.now ≡ m.modes.now
  pub pieces : s.pieces.now ≡ m.pieces.now
  pub pairs : s.pairs.now ≡ m.pairs.now

-- what is lent stays the same memory
pub record SameMemory (old new : Lent) : Type 0 where
  pub nodes : new.nodes.ghost_name ≡ old.nodes.ghost_name
  pub list : new.list.ghost_name ≡ old.list.ghost_name
  pub modes : new.modes.ghost_name ≡ old.modes.ghost_name
  pub pieces : new.pieces.ghost_name ≡ old.pieces.ghost_name
  pub pairs : new.pairs.ghost_name ≡ old.pairs.ghost_name
