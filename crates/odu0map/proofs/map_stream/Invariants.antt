-- `odu0map::map_stream` meets its contract. Each batch goes on from the one before, and the number
-- of frames grows. Assumes nothing.
use Rattle.std.proofs.Common.{◌-◌}
use Rattle.odu0map.proofs.Loads.{Along}
use Rattle.odu0map.proofs.map_stream.Given as goal

abbrev pub invariant-loop-written : goal.invariant-loop-written
invariant-loop-written l = Along l.rate l.initial.mapper l.mapper l.written l.bytes

abbrev pub decreases-loop-written : goal.decreases-loop-written
decreases-loop-written l = 18446744073709551615 - l.written
