-- `gmp_stuffing::take_bytes` meets its contract. Assumes nothing.
use mathlib.Core.Path.{◌≡◌}
use Prim.Native.Nat.{◌+◌, ◌*◌, ◌/◌}
use lib.ListN.{length}
use Rattle.gmp_stuffing.specs.Row.{row_client}
use Rattle.gmp_stuffing.proofs.Filled.{Filled}
use Rattle.gmp_stuffing.proofs.Turns.{Step}
use Rattle.gmp_stuffing.proofs.take_bytes.Given as goal

abbrev pub invariant-loop-byte : goal.invariant-loop-byte
invariant-loop-byte l = Step l.k l.count l.r l.byte-index l.taken l.rest × (length l.out ≡ length l.initial.out) × Filled ((l.r * l.k + l.k) * l.count / (4 * l.k)) l.taken (row_client l.k l.r l.count l.part l.initial.out) l.out
