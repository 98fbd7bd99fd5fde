-- `odu0map::map_next` meets its contract. Assumes nothing.
use Rattle.std.proofs.Common.{arith}
use Rattle.program_stream.specs.Gather.{held_bytes}
use Rattle.odu0map.proofs.Loads.{holds_load}
use Rattle.odu0map.proofs.map_next.Goals as goal

pub map_held-requires : goal.map_held-requires
map_held-requires c =
    let g = c.args in
    let w = c.supply in
    (c.requires, holds_load g.rate g.mapper (held_bytes g.held g.client.now) c.in_ok-more.more w.new.block c.requires (omega arith) c.in_ok-more.ensures)
