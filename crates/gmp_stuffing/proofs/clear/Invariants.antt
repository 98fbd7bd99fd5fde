-- `gmp_stuffing::clear` meets its contract. Of each block the first 15 bytes are the next ones, and
-- the last block ends the row. Assumes nothing.
use mathlib.Core.Path.{◌≡◌}
use Prim.Native.Nat.{◌-◌, ◌≤◌}
use lib.ListN.{length, replicate}
use Rattle.gmp_stuffing.proofs.Filled.{Filled}
use Rattle.gmp_stuffing.proofs.clear.Given as goal

abbrev pub invariant-loop-i : goal.invariant-loop-i
invariant-loop-i l = (l.i ≤ l.k) × (length l.part ≡ l.k) × Filled l.k l.i (replicate l.k 0) l.part

abbrev pub decreases-loop-i : goal.decreases-loop-i
decreases-loop-i l = l.k - l.i
