-- The builder as the definitions see it.
-- Assumes nothing.
use Rattle.std.specs.Prelude.{◌≡◌}
use Rattle.state.specs.Full.{Full, full}
use Rattle.state.specs.declared.builder.Builder.{Builder}

abbrev pub full_of : Builder → Full
full_of b = full b.stack.now b.core b.context b.nodes.now b.list.now b.modes.now b.pieces.now b.pairs.now

-- what is lent stays the same memory
pub record SameLoans (old new : Builder) : Type 0 where
  pub stack : new.stack.ghost_name ≡ old.stack.ghost_name
  pub list : new.list.ghost_name ≡ old.list.ghost_name
  pub modes : new.modes.ghost_name ≡ old.modes.ghost_name
  pub nodes : new.nodes.ghost_name ≡ old.nodes.ghost_name
  pub pieces : new.pieces.ghost_name ≡ old.pieces.ghost_name
  pub pairs : new.pairs.ghost_name ≡ old.pairs.ghost_name
