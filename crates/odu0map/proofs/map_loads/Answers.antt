-- `odu0map::map_loads` meets its contract. Assumes nothing.
use Rattle.std.proofs.Common.{◌≡◌, ℕ, subst, inl, refl, arith}
use Rattle.odu0map.proofs.Loads.{Mapping, mapping_start, mapping_asks, mapping_next, mapping_done}
use Rattle.odu0map.proofs.map_loads.Goals as goal

pub loop-number-init : goal.loop-number-init
loop-number-init c = mapping_start c.args.rate c.args.first c.args.client.now c.args.frames.now c.requires (omega arith)

pub loop-number-preserved : goal.loop-number-preserved
loop-number-preserved c =
    let g = c.args in
    let l = c.loop-number in
    let k = c.make_frame-mapper in
    let asks = mapping_asks g.rate g.first g.client.now l.mapper l.at l.number l.frames l.invariant c.loop-number-test.true c.if-client-at.false in
    mapping_next g.rate g.first g.client.now l.mapper l.at l.number l.frames l.invariant c.loop-number-test.true (omega (arith, c.if-client-at.false)) k.result k.new.frame (k.ensures asks.0 asks.1 asks.2) k.auto.frame

pub returns : goal.returns
returns c =
    let g = c.args in
    let l = c.loop-number in
    let all : l.number ≡ 16 = omega (arith, l.invariant.few, c.loop-number-test.false) in
    mapping_done g.rate g.first g.client.now l.mapper l.at 16 l.frames (subst (λ (i : ℕ). Mapping g.rate g.first g.client.now l.mapper l.at i l.frames) all l.invariant) (inl refl)
