-- `sinkshow::show_all` meets its contract. Each turn goes on from the run after one more frame,
-- whose number grows to the largest of 64 bits and no further. Assumes nothing.
use mathlib.Core.Path.{subst}
use native.Mathlib.Omega.{arith}
use Rattle.sinkshow.specs.Show.{GoesOn}
use Rattle.sinkshow.proofs.Going.{along_start, one_further, along_next, run_stopped, run_full}
use Rattle.sinkshow.proofs.show_all.Goals as goal

pub loop-run-init : goal.loop-run-init
loop-run-init c = along_start _ c.new_run-run.ensures

pub loop-run-smaller : goal.loop-run-smaller
loop-run-smaller c =
    let l = c.loop-run in
    omega (arith, one_further l.run _ (subst (GoesOn l.run) c.in-Ok.is c.show_next.ensures))

pub loop-run-preserved : goal.loop-run-preserved
loop-run-preserved c =
    let l = c.loop-run in
    along_next l.run _ l.invariant (omega (arith, c.loop-run-test.true)) (subst (GoesOn l.run) c.in-Ok.is c.show_next.ensures)

pub returns-in-Err : goal.returns-in-Err
returns-in-Err c =
    let l = c.loop-run in
    run_stopped l.run l.invariant c.in-Err.stop (subst (GoesOn l.run) c.in-Err.is c.show_next.ensures)

pub returns : goal.returns
returns c = run_full c.loop-run.run c.loop-run.invariant (omega (arith, c.loop-run-test.false))
