-- `odu0map::main` meets its contract. Assumes nothing.
use Rattle.std.proofs.Common.{sym, ap, ◌∙◌}
use Rattle.program_map.specs.Frames.{start_meaning}
use Rattle.program_map.proofs.Laws.{starts_ready}
use Rattle.odu0map.proofs.main.Goals as goal

pub map_all-totals-requires : goal.map_all-totals-requires
map_all-totals-requires c =
    let a = c.in-Some.rate in
    starts_ready a c.in-Ok.mapper (sym (ap start_meaning c.in-Ok.is) ∙ c.new_mapper.ensures)
