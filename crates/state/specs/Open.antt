-- What the calls that open an element rely on: all of it holds in a sound state.
-- Assumes nothing.
use Rattle.std.specs.Prelude.{◌+◌, ◌<◌, ◌≤◌, ◌≡◌, length}
use Rattle.places.specs.Places.{Whole}
use Rattle.state.specs.Full.{Full}

pub record Open (f : Full) : Type 0 where
  pub some : 0 < f.stack.size
  pub whole : Whole f.stack
  -- the stack has 512 places
  pub places : f.stack.size + length f.stack.free ≡ 512
  pub pairs : f.pairs.used ≤ 4096
