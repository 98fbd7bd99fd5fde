-- `gmp_stuffing::copy_run` meets its contract. The loop has copied k bytes, in whole pairs of
-- blocks. Assumes nothing.
use mathlib.Core.Path.{◌≡◌, ◌∙◌}
use Prim.Native.Nat.{◌+◌, ◌-◌}
use native.Mathlib.Omega.{arith}
use Rattle.gmp_stuffing.proofs.Copies.{copied_copied}
use Rattle.gmp_stuffing.proofs.copy_run.Goals as goal

pub loop-k-preserved : goal.loop-k-preserved
loop-k-preserved c =
    let a = c.loop-k in
    let g = c.args in (
      omega arith,
      c.copy_pair-in-loop-k.auto.dst ∙ a.invariant.1,
      c.copy_pair-in-loop-k.ensures ∙ rw a.invariant.2 (copied_copied g.dst.now g.i g.src.now g.j a.k a.k 32 (omega arith) (omega arith) (omega arith) (omega arith)),
    )

pub returns-after-loop-k : goal.returns-after-loop-k
returns-after-loop-k c =
    let a = c.loop-k in
    let g = c.args in
    let e : g.m - 32 + 32 ≡ g.m = omega arith in
    let h = copied_copied g.dst.now g.i g.src.now g.j a.k (g.m - 32) 32 (omega arith) (omega arith) (omega arith) (omega arith) in
    c.copy_pair-else-m-le32.ensures ∙ rw (a.invariant.2, h, e)
