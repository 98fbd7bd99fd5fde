-- `gmp_stuffing::place_runs` meets its contract: by blocks, then run by run, and the last run.
-- Assumes nothing.
use mathlib.Core.Path.{◌≡◌}
use Prim.Native.Nat.{◌+◌, ◌-◌, ◌*◌, ◌≤◌}
use lib.ListN.{length}
use Rattle.gmp_stuffing.specs.Row.{row_bytes}
use Rattle.gmp_stuffing.proofs.Filled.{Filled}
use Rattle.gmp_stuffing.proofs.Turns.{Ahead}
use Rattle.gmp_stuffing.proofs.place_runs.Given as goal

abbrev pub invariant-loop-parts : goal.invariant-loop-parts
invariant-loop-parts l = (l.stuffed ≤ l.from + l.at) × Ahead l.k (length l.client) (4 * l.k - length l.client) l.r l.at (l.from + l.at - l.stuffed) l.parts × (length l.part ≡ l.k) × Filled l.k l.at (row_bytes l.k l.r l.client) l.part

abbrev pub decreases-loop-parts : goal.decreases-loop-parts
decreases-loop-parts l = l.k - l.at

abbrev pub invariant-loop-parts-2 : goal.invariant-loop-parts-2
invariant-loop-parts-2 l = Ahead l.k (length l.client) (4 * l.k - length l.client) l.r l.at l.used l.parts × (length l.part ≡ l.k) × Filled l.k l.at (row_bytes l.k l.r l.client) l.part

abbrev pub decreases-loop-parts-2 : goal.decreases-loop-parts-2
decreases-loop-parts-2 l = l.k - l.at
