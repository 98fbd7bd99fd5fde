-- `gmp_stuffing::copy_bytes` meets its contract. Assumes nothing.
use native.Mathlib.Omega.{arith}
use lib.ListN.{length-set}
use Rattle.gmp_stuffing.proofs.Copies.{copied_more}
use Rattle.gmp_stuffing.proofs.copy_bytes.Goals as goal

pub loop-k-preserved : goal.loop-k-preserved
loop-k-preserved c =
    let g = c.args in
    let v = c.loop-k.invariant in
    (rw v.0 (copied_more g.dst.now g.i g.src.now g.j c.loop-k.k (omega arith) (omega arith)), rw length-set v.1)
