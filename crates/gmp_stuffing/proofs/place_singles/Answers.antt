-- `gmp_stuffing::place_singles` meets its contract. Assumes nothing.
use mathlib.Core.Path.{◌≡◌, sym, ◌∙◌}
use Prim.Native.Nat.{◌+◌, ◌*◌, ◌/◌}
use native.Mathlib.Nat.{mul-zero, zero-div}
use native.Mathlib.Omega.{arith}
use lib.ListN.{length, length-set}
use Rattle.gmp_stuffing.proofs.Runs.{row_count, row_end}
use Rattle.gmp_stuffing.proofs.Turns.{single_row, found}
use Rattle.gmp_stuffing.proofs.Singles.{some_byte, zeros_placed, one_placed, row_placed_lem}
use Rattle.gmp_stuffing.proofs.place_singles.Goals as goal

pub returns-then-client-eq0 : goal.returns-then-client-eq0
returns-then-client-eq0 c =
    let g = c.args in
    let k = length g.part.now in
    let none : 0 ≡ g.r * k * length g.client.now / (4 * k) = rw (c.if-client-eq0.true, mul-zero (g.r * k), zero-div (4 * k)) in
    let all : 0 ≡ (g.r * k + k) * length g.client.now / (4 * k) = rw (c.if-client-eq0.true, mul-zero (g.r * k + k), zero-div (4 * k)) in
    c.clear.ensures
    ∙ zeros_placed k g.r g.client.now (omega arith) (omega arith) 0 none
    ∙ row_placed_lem k g.r g.client.now (omega arith) (omega arith) 0 all

pub loop-j-init : goal.loop-j-init
loop-j-init c =
    let g = c.args in
    let k = length g.part.now in
    let s = c.row_singles-row.ensures c.requires.0 (some_byte _ c.if-client-eq0.false) in (
      rw s.first (single_row k (length g.client.now) g.r (omega arith) (omega arith) c.requires.0.2 _ s.parts),
      c.clear.auto.part,
      c.clear.ensures ∙ zeros_placed k g.r g.client.now (omega arith) (omega arith) _ (s.first ∙ sym (row_count g.r k (length g.client.now) (omega arith))),
    )

pub loop-j-preserved : goal.loop-j-preserved
loop-j-preserved c =
    let g = c.args in
    let k = length g.part.now in
    let v = c.loop-j.invariant in
    let s = c.row_singles-row.ensures c.requires.0 (some_byte _ c.if-client-eq0.false) in
    let f = found k (length g.client.now) g.r (omega arith) (omega arith) c.requires.0.2 v.0 (omega (arith, s.end)) in (
      rw s.hop f.next,
      rw length-set v.1,
      rw v.2 (one_placed k g.r g.client.now (omega arith) (omega arith) c.loop-j.j _ f.inside f.client f.count),
    )

pub returns : goal.returns
returns c =
    let g = c.args in
    let k = length g.part.now in
    let s = c.row_singles-row.ensures c.requires.0 (some_byte _ c.if-client-eq0.false) in
    c.loop-j.invariant.2
    ∙ row_placed_lem k g.r g.client.now (omega arith) (omega arith) c.loop-j.j
    (omega (arith, s.first, s.end, row_end g.r k (length g.client.now) (omega arith)))
