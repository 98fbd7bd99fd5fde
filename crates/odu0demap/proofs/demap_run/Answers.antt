-- `odu0demap::demap_run` meets its contract. Assumes nothing.
use mathlib.Core.Path.{◌≡◌, ◌∙◌, refl, subst, sym}
use mathlib.Core.Logic.{inl}
use Prim.Native.Nat.{ℕ}
use native.Mathlib.Omega.{arith}
use Rattle.odu0demap.proofs.Going.{Running, running_start, running_asks, running_next, run_done, run_told}
use Rattle.odu0demap.proofs.demap_run.Goals as goal

pub loop-number-init : goal.loop-number-init
loop-number-init c = running_start c.args.wanted c.args.first c.args.frames.now c.args.out.now (omega arith)

pub loop-number-preserved : goal.loop-number-preserved
loop-number-preserved c =
    let g = c.args in
    let l = c.loop-number in
    let k = c.demap_frame-taken in
    let asks = running_asks g.wanted g.first g.frames.now l.demapper l.number l.handed l.out l.invariant c.loop-number-test.true c.if-frames-at-lt15240.false in
    running_next g.wanted g.first g.frames.now l.demapper l.number l.handed l.out l.invariant c.loop-number-test.true c.if-frames-at-lt15240.false k.result k.new.out (k.ensures asks.0 asks.1) k.auto.out (sym c.if-not-has_nothing_to_tell.false ∙ c.has_nothing_to_tell.ensures)

pub returns-then-not-has_nothing_to_tell : goal.returns-then-not-has_nothing_to_tell
returns-then-not-has_nothing_to_tell c =
    let g = c.args in
    let l = c.loop-number in
    let k = c.demap_frame-taken in
    let asks = running_asks g.wanted g.first g.frames.now l.demapper l.number l.handed l.out l.invariant c.loop-number-test.true c.if-frames-at-lt15240.false in
    run_told g.wanted g.first g.frames.now l.demapper l.number l.handed l.out l.invariant c.loop-number-test.true c.if-frames-at-lt15240.false k.result k.new.out (k.ensures asks.0 asks.1) k.auto.out (sym c.if-not-has_nothing_to_tell.true ∙ c.has_nothing_to_tell.ensures)

pub returns : goal.returns
returns c =
    let g = c.args in
    let l = c.loop-number in
    let all : l.number ≡ 16 = omega (arith, l.invariant.few, c.loop-number-test.false) in
    run_done g.wanted g.first g.frames.now l.demapper 16 l.handed l.out (subst (λ (i : ℕ). Running g.wanted g.first g.frames.now l.demapper i l.handed l.out) all l.invariant) (inl refl)
