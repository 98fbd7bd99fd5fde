-- `gmp_stuffing::take_singles` meets its contract. Assumes nothing.
use mathlib.Core.Path.{◌≡◌}
use Prim.Native.Nat.{◌+◌, ◌*◌, ◌/◌}
use lib.ListN.{length}
use Rattle.gmp_stuffing.specs.Row.{row_client}
use Rattle.gmp_stuffing.proofs.Filled.{Filled}
use Rattle.gmp_stuffing.proofs.Turns.{Single}
use Rattle.gmp_stuffing.proofs.take_singles.Given as goal

abbrev pub invariant-loop-j : goal.invariant-loop-j
invariant-loop-j l = Single (length l.part) l.count l.r l.j l.parts × (length l.out ≡ length l.initial.out) × Filled ((l.r * length l.part + length l.part) * l.count / (4 * length l.part)) l.j (row_client (length l.part) l.r l.count l.part l.initial.out) l.out
