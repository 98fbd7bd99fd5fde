-- `odu0demap::demap_stream` meets its contract. Each turn goes on from the demapper after one run
-- of frames more, and the number of frames grows. Assumes nothing.
use Prim.Native.Nat.{◌-◌}
use Rattle.odu0demap.proofs.Going.{Along}
use Rattle.odu0demap.proofs.demap_stream.Given as goal

abbrev pub invariant-loop-taken : goal.invariant-loop-taken
invariant-loop-taken l = Along l.wanted l.demapper l.taken

abbrev pub decreases-loop-taken : goal.decreases-loop-taken
decreases-loop-taken l = 18446744073709551615 - l.taken
