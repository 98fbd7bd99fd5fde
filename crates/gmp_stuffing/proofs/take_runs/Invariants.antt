-- `gmp_stuffing::take_runs` meets its contract: by blocks, then run by run, and the last run.
-- Assumes nothing.
use mathlib.Core.Path.{◌≡◌}
use Prim.Native.Nat.{◌+◌, ◌-◌, ◌*◌, ◌/◌, ◌≤◌}
use lib.ListN.{length}
use Rattle.gmp_stuffing.specs.Row.{row_client}
use Rattle.gmp_stuffing.proofs.Filled.{Filled}
use Rattle.gmp_stuffing.proofs.Turns.{Ahead}
use Rattle.gmp_stuffing.proofs.take_runs.Given as goal

abbrev pub invariant-loop-parts : goal.invariant-loop-parts
invariant-loop-parts l = (l.stuffed ≤ l.from + l.at) × Ahead l.k l.count (4 * l.k - l.count) l.r l.at (l.from + l.at - l.stuffed) l.parts × (length l.out ≡ length l.initial.out) × Filled ((l.r * l.k + l.k) * l.count / (4 * l.k)) (l.from + l.at - l.stuffed) (row_client l.k l.r l.count l.part l.initial.out) l.out

abbrev pub decreases-loop-parts : goal.decreases-loop-parts
decreases-loop-parts l = l.k - l.at

abbrev pub invariant-loop-parts-2 : goal.invariant-loop-parts-2
invariant-loop-parts-2 l = Ahead l.k l.count (4 * l.k - l.count) l.r l.at l.taken l.parts × (length l.out ≡ length l.initial.out) × Filled ((l.r * l.k + l.k) * l.count / (4 * l.k)) l.taken (row_client l.k l.r l.count l.part l.initial.out) l.out

abbrev pub decreases-loop-parts-2 : goal.decreases-loop-parts-2
decreases-loop-parts-2 l = l.k - l.at
