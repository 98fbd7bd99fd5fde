-- `odu0map::map_held` meets its contract. Assumes nothing.
use Rattle.std.proofs.Common.{arith}
use Rattle.odu0map.proofs.Loads.{goes_held}
use Rattle.odu0map.proofs.map_held.Goals as goal

pub returns : goal.returns
returns c =
    let g = c.args in
    let k = c.map_loads-batch in
    goes_held g.rate g.mapper g.held g.client.now k.result c.requires.1 k.ensures.batch _ (omega arith)
