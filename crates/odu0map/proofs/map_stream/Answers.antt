-- `odu0map::map_stream` meets its contract. Each batch goes on from the one before, and the number
-- of frames grows. Assumes nothing.
use Rattle.std.proofs.Common.{subst, refl, arith}
use Rattle.program_stream.specs.Gather.{held_bytes}
use Rattle.std.specs.Prelude.{Result}
use Rattle.program_stream.specs.declared.Held.{Held}
use Rattle.program_stream.specs.declared.Stop.{Stop}
use Rattle.odu0map.specs.declared.Batch.{Batch}
use Rattle.odu0map.specs.Mapping.{GoesOn}
use Rattle.odu0map.proofs.Loads.{along_start, along_next, run_stopped, run_full}
use Rattle.odu0map.proofs.map_stream.Goals as goal

pub loop-written-init : goal.loop-written-init
loop-written-init c = along_start c.args.rate c.args.new c.requires

pub map_next-requires : goal.map_next-requires
map_next-requires c = c.loop-written.invariant.ready

pub loop-written-smaller : goal.loop-written-smaller
loop-written-smaller c =
    let l = c.loop-written in
    let w = c.map_next in
    let goes = subst (λ (r : Result (Batch × Held) Stop). GoesOn c.args.rate l.mapper (held_bytes l.held l.client) r w.new.client) c.in-Ok.is w.ensures in
    omega (arith, goes.2.0.few, goes.2.1, c.loop-written-test.true)

pub loop-written-preserved : goal.loop-written-preserved
loop-written-preserved c =
    let l = c.loop-written in
    let w = c.map_next in
    let goes = subst (λ (r : Result (Batch × Held) Stop). GoesOn c.args.rate l.mapper (held_bytes l.held l.client) r w.new.client) c.in-Ok.is w.ensures in
    along_next c.args.rate c.args.new l.mapper l.written l.bytes l.invariant (omega (arith, c.loop-written-test.true)) goes.0 c.in-Ok.batch goes.2.0 _ refl

pub returns-in-Err : goal.returns-in-Err
returns-in-Err c =
    let l = c.loop-written in
    let w = c.map_next in
    let stops = subst (λ (r : Result (Batch × Held) Stop). GoesOn c.args.rate l.mapper (held_bytes l.held l.client) r w.new.client) c.in-Err.is w.ensures in
    run_stopped c.args.rate c.args.new l.mapper l.written l.bytes l.invariant (held_bytes l.held l.client) w.new.client c.in-Err.stop stops

pub returns : goal.returns
returns c =
    let l = c.loop-written in
    run_full c.args.rate c.args.new l.mapper l.written l.bytes l.invariant (omega (arith, c.loop-written-test.false))
