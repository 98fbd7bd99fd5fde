-- `odu0demap::demap_stream` meets its contract. Each turn goes on from the demapper after one run
-- of frames more, and the number of frames grows. Assumes nothing.
use mathlib.Core.Path.{subst}
use native.Mathlib.Omega.{arith}
use Rattle.program_stream.specs.Gather.{held_bytes}
use Prim.Native.Nat.{ℕ}
use Rattle.std.specs.Prelude.{Result}
use Rattle.program_stream.specs.declared.Held.{Held}
use Rattle.program_stream.specs.declared.Stop.{Stop}
use Rattle.program_demap.specs.declared.Demapper.{Demapper}
use Rattle.odu0demap.specs.Demapping.{GoesOn}
use Rattle.odu0demap.proofs.Going.{along_start, along_next, run_stopped, run_full}
use Rattle.odu0demap.proofs.demap_stream.Goals as goal

pub loop-taken-init : goal.loop-taken-init
loop-taken-init c = along_start c.args.wanted _ c.new_demapper-demapper.ensures

pub loop-taken-smaller : goal.loop-taken-smaller
loop-taken-smaller c =
    let l = c.loop-taken in
    let w = c.take_next in
    let goes = subst (λ (r : Result (Demapper × ℕ × Held) Stop). GoesOn c.args.wanted l.demapper (held_bytes l.held l.frames) r w.new.frames) c.in-Ok.is w.ensures in
    omega (arith, goes.2.some, goes.2.few, c.loop-taken-test.true)

pub loop-taken-preserved : goal.loop-taken-preserved
loop-taken-preserved c =
    let l = c.loop-taken in
    let w = c.take_next in
    let goes = subst (λ (r : Result (Demapper × ℕ × Held) Stop). GoesOn c.args.wanted l.demapper (held_bytes l.held l.frames) r w.new.frames) c.in-Ok.is w.ensures in
    along_next c.args.wanted l.demapper l.taken l.invariant goes.0 c.in-Ok.after c.in-Ok.number _ goes.2

pub returns-in-Err : goal.returns-in-Err
returns-in-Err c =
    let l = c.loop-taken in
    let w = c.take_next in
    let stops = subst (λ (r : Result (Demapper × ℕ × Held) Stop). GoesOn c.args.wanted l.demapper (held_bytes l.held l.frames) r w.new.frames) c.in-Err.is w.ensures in
    run_stopped c.args.wanted l.demapper l.taken l.invariant (held_bytes l.held l.frames) w.new.frames c.in-Err.stop stops

pub returns : goal.returns
returns c =
    let l = c.loop-taken in
    run_full c.args.wanted l.demapper l.taken l.invariant (omega (arith, c.loop-taken-test.false))
