-- A ready state has what the adoption agency relies on.
-- Assumes nothing.
use Rattle.std.proofs.Common.{arith}
use Rattle.state.specs.Full.{Full}
use Rattle.state.specs.Ready.{Ready}
use Rattle.adopted.specs.Firm.{Firm}

pub ready_firm : (f : Full) → Ready f → Firm f.stack f.list f.nodes.used 0
ready_firm f w = record { stack = w.stack; list = w.list; used = w.used; listed = w.listed; room = omega (arith, w.nodes) }
