-- `gmp_stuffing::copy_bytes` meets its contract. Assumes nothing.
use mathlib.Core.Path.{◌≡◌}
use lib.ListN.{length}
use Rattle.gmp_stuffing.specs.Copied.{copied}
use Rattle.gmp_stuffing.proofs.copy_bytes.Given as goal

abbrev pub invariant-loop-k : goal.invariant-loop-k
invariant-loop-k l = (l.dst ≡ copied l.initial.dst l.i l.src l.j l.k) × (length l.dst ≡ length l.initial.dst)
