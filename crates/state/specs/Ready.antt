-- What the calls rely on of the state: all of it holds in a sound state.
-- Assumes nothing.
use Rattle.std.specs.Prelude.{ℕ, ◌<◌, ◌≤◌, ◌≡◌, ◌+◌, ◌⊎◌, length, get_or}
use Rattle.places.specs.Places.{Whole}
use Rattle.state.specs.Full.{Full}

pub record Ready (f : Full) : Type 0 where
  -- the stack has 512 places, one at least in use
  pub some : 0 < f.stack.size
  pub deep : f.stack.size ≤ 512
  pub places : f.stack.size + length f.stack.free ≡ 512
  -- as many are in use as the record says
  pub stack : Whole f.stack
  pub list : Whole f.list
  pub modes : Whole f.modes
  pub pairs : f.pairs.used ≤ 4096
  pub nodes : f.nodes.used ≤ 4096
  -- an open element is a used node, and an entry of the list a used node or a marker
  pub used : (i : ℕ) → i < length f.stack.held → get_or f.stack.held i 0 ≤ f.nodes.used
  pub listed : (i : ℕ) → i < length f.list.held → (get_or f.list.held i 0 ≤ f.nodes.used) ⊎ (get_or f.list.held i 0 ≡ 65535)
