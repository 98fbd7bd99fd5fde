-- `gmp_stuffing::take_singles` meets its contract. Assumes nothing.
use mathlib.Core.Path.{◌≡◌, refl, sym}
use Prim.Native.Nat.{◌+◌, ◌*◌, ◌/◌}
use native.Mathlib.Nat.{mul-zero}
use native.Mathlib.Omega.{arith}
use lib.ListN.{length, length-set}
use Rattle.gmp_stuffing.proofs.Filled.{filled_all}
use Rattle.gmp_stuffing.proofs.Runs.{row_count, row_end, taken_none, take_byte}
use Rattle.gmp_stuffing.proofs.Turns.{single_row, found}
use Rattle.gmp_stuffing.proofs.Singles.{some_byte}
use Rattle.gmp_stuffing.proofs.take_singles.Goals as goal

pub returns-then-count-eq0 : goal.returns-then-count-eq0
returns-then-count-eq0 c =
    let g = c.args in
    let k = length g.part.now in
    let e : g.r * k * g.count / (4 * k) ≡ (g.r * k + k) * g.count / (4 * k) = rw (c.if-count-eq0.true, mul-zero (g.r * k), mul-zero (g.r * k + k)) in
    filled_all (taken_none g.r g.count g.part.now g.out.now (omega arith) (omega arith) c.requires.1 c.requires.0.1) e

pub loop-j-init : goal.loop-j-init
loop-j-init c =
    let g = c.args in
    let k = length g.part.now in
    let s = c.row_singles-row.ensures c.requires.0 (some_byte _ c.if-count-eq0.false) in (
      rw s.first (single_row k g.count g.r (omega arith) (omega arith) c.requires.0.2 _ s.parts),
      refl,
      rw (s.first, ← row_count g.r k g.count (omega arith)) (taken_none g.r g.count g.part.now g.out.now (omega arith) (omega arith) c.requires.1 c.requires.0.1),
    )

pub loop-j-preserved : goal.loop-j-preserved
loop-j-preserved c =
    let g = c.args in
    let v = c.loop-j.invariant in
    let s = c.row_singles-row.ensures c.requires.0 (some_byte _ c.if-count-eq0.false) in
    let f = found (length g.part.now) g.count g.r (omega arith) (omega arith) c.requires.0.2 v.0 (omega (arith, s.end)) in (
      rw s.hop f.next,
      rw length-set v.1,
      take_byte g.r g.count g.part.now g.out.now (omega arith) (omega arith) c.requires.1 c.requires.0.1 _ v.2 (sym f.count) f.inside f.client,
    )

pub returns : goal.returns
returns c =
    let g = c.args in
    let s = c.row_singles-row.ensures c.requires.0 (some_byte _ c.if-count-eq0.false) in
    filled_all c.loop-j.invariant.2 (omega (arith, s.first, s.end, row_end g.r (length g.part.now) g.count (omega arith)))
