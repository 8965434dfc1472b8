-- A sound state as the definitions of the calls see it: the rules of `Sound` on what is in use, and 512 places for the stack.
-- Assumes nothing.
use Rattle.std.specs.Prelude.{◌≡◌, ◌+◌, length}
use Rattle.places.specs.Places.{Whole}
use Rattle.state.specs.Full.{Full}
use Rattle.sound.specs.Sound.{Sound}

pub record SoundFull (f : Full) : Type 0 where
  -- as many are in use as the record says
  pub stack : Whole f.stack
  pub list : Whole f.list
  pub modes : Whole f.modes
  pub places : length f.stack.held + length f.stack.free ≡ 512
  pub sound :
      Sound
      f.nodes.mem
      f.pieces.mem
      f.pairs.mem
      f.stack.held
      f.list.held
      f.modes.held
      f.nodes.used
      f.pieces.used
      f.pairs.used
      f.stack.size
      f.list.size
      f.modes.size
      f.flags.foster
      f.flags.head
      f.context
