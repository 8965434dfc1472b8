use Rattle.std.proofs.Common.{◌≡◌, arith, length, min}
use Rattle.state.specs.Fields.{empty_state}
use Rattle.dozenpurse.proofs.Laws.{input_is, leaflet_is}
use Rattle.dozenpurse.proofs.leaflet.Goals as goal

pub returns : goal.returns
returns c =
    let size : c.min-2.result ≡ min (min c.args.n 16384) (length c.args.buffer.now) = omega arith in
    leaflet_is _ _ _ _ _ c.requires _ _ c.begun-state.ensures (c.begin.ensures empty_state) _ _ _ (input_is _ _ size) _ _ _ _ _ _ c.run-ran.ensures.outcome c.cut.ensures
