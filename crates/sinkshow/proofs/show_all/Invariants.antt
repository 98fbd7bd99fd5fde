-- `sinkshow::show_all` meets its contract. Each turn goes on from the run after one more frame,
-- whose number grows to the largest of 64 bits and no further. Assumes nothing.
use Prim.Native.Nat.{◌-◌}
use Rattle.sinkshow.proofs.Going.{Along}
use Rattle.sinkshow.proofs.show_all.Given as goal

abbrev pub invariant-loop-run : goal.invariant-loop-run
invariant-loop-run l = Along l.run

abbrev pub decreases-loop-run : goal.decreases-loop-run
decreases-loop-run l = 18446744073709551615 - l.run.frames
