-- `gmp_stuffing::copy_pair` meets its contract. Assumes nothing.
use mathlib.Core.Path.{◌≡◌, ◌∙◌}
use Prim.Native.Nat.{◌+◌, ◌-◌}
use native.Mathlib.Omega.{arith}
use Rattle.gmp_stuffing.proofs.Copies.{copied_copied}
use Rattle.gmp_stuffing.proofs.copy_pair.Goals as goal

pub returns-then-m-gt16 : goal.returns-then-m-gt16
returns-then-m-gt16 c =
    let g = c.args in
    let e : g.m - 16 + 16 ≡ g.m = omega arith in
    let h = copied_copied g.dst.now g.i g.src.now g.j 16 (g.m - 16) 16 (omega arith) (omega arith) (omega arith) (omega arith) in
    c.copy_block-then-m-gt16.ensures ∙ rw (c.copy_block.ensures, h, e)
