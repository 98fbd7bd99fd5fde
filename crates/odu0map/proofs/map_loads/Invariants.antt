-- `odu0map::map_loads` meets its contract. Assumes nothing.
use Rattle.odu0map.proofs.Loads.{Mapping}
use Rattle.odu0map.proofs.map_loads.Given as goal

abbrev pub invariant-loop-number : goal.invariant-loop-number
invariant-loop-number l = Mapping l.rate l.initial.mapper l.client l.mapper l.at l.number l.frames
