-- `gmp_stuffing::place_bytes` meets its contract. Assumes nothing.
use mathlib.Core.Path.{◌≡◌}
use lib.ListN.{length}
use Rattle.gmp_stuffing.specs.Row.{row_bytes}
use Rattle.gmp_stuffing.proofs.Filled.{Filled}
use Rattle.gmp_stuffing.proofs.Turns.{Step}
use Rattle.gmp_stuffing.proofs.place_bytes.Given as goal

abbrev pub invariant-loop-byte : goal.invariant-loop-byte
invariant-loop-byte l = Step l.k l.c l.r l.byte-index l.used l.rest × (length l.part ≡ l.k) × Filled l.k l.byte-index (row_bytes l.k l.r l.client) l.part
