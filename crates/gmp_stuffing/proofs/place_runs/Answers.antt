-- `gmp_stuffing::place_runs` meets its contract: by blocks, then run by run, and the last run.
-- Assumes nothing.
use mathlib.Core.Path.{refl, ◌∙◌}
use native.Mathlib.Omega.{arith}
use lib.ListN.{length-set}
use Rattle.gmp_stuffing.proofs.Runs.{placed_none}
use Rattle.gmp_stuffing.proofs.Turns.{turn, run_room, last_room, in_client, begins, inside, block, hop_fits, hopped, counted, place_turn, place_last}
use Rattle.gmp_stuffing.proofs.place_runs.Goals as goal

pub loop-parts-init : goal.loop-parts-init
loop-parts-init c =
    let g = c.args in
    let a = begins (c.row_runs-row.ensures c.requires.0) c.requires.0 in
    (omega (arith, a.0), a.1, refl, placed_none g.r g.client.now g.part.now)

pub copy_pair-requires : goal.copy_pair-requires
copy_pair-requires c =
    let s = c.row_runs-row.ensures c.requires.0 in
    let q = block s c.loop-parts.invariant.1 c.requires.1 c.loop-parts-test.true in
    (omega (arith, q.row, c.loop-parts.invariant.2), in_client c.requires.0.1 q, s.least, s.most)

pub overflow_add-parts : goal.overflow_add-parts
overflow_add-parts c =
    let s = c.row_runs-row.ensures c.requires.0 in
    hop_fits s c.loop-parts.invariant.1 (inside s c.loop-parts-test.true)

pub loop-parts-smaller : goal.loop-parts-smaller
loop-parts-smaller c =
    let h = inside (c.row_runs-row.ensures c.requires.0) c.loop-parts-test.true in
    omega (arith, h, (turn c.loop-parts.invariant.1 h).after)

pub loop-parts-preserved : goal.loop-parts-preserved
loop-parts-preserved c =
    let s = c.row_runs-row.ensures c.requires.0 in
    let v = c.loop-parts.invariant in
    let h = inside s c.loop-parts-test.true in
    let n = counted s v.0 v.1 h in (
      n.0,
      n.1,
      rw length-set (c.copy_pair.auto.dst ∙ v.2),
      rw c.copy_pair.ensures (place_turn c.args.client.now v.1 v.3 c.requires.0.1 _ h (block s v.1 c.requires.1 c.loop-parts-test.true)),
    )

pub overflow_sub-index : goal.overflow_sub-index
overflow_sub-index c = (turn c.loop-parts-2.invariant.0 c.loop-parts-2-test.true).after

pub copy_run-requires : goal.copy_run-requires
copy_run-requires c =
    let q = run_room c.loop-parts-2.invariant.0 c.loop-parts-2-test.true in
    (omega (arith, q.row, c.loop-parts-2.invariant.1), in_client c.requires.0.1 q)

pub overflow_sub-used-in-loop-parts-2 : goal.overflow_sub-used-in-loop-parts-2
overflow_sub-used-in-loop-parts-2 c = (turn c.loop-parts-2.invariant.0 c.loop-parts-2-test.true).after

pub loop-parts-2-smaller : goal.loop-parts-2-smaller
loop-parts-2-smaller c = omega (arith, c.loop-parts-2-test.true, (turn c.loop-parts-2.invariant.0 c.loop-parts-2-test.true).after)

pub loop-parts-2-preserved : goal.loop-parts-2-preserved
loop-parts-2-preserved c =
    let v = c.loop-parts-2.invariant in
    let h = c.loop-parts-2-test.true in (
      hopped (c.row_runs-row.ensures c.requires.0) v.0 h,
      rw length-set (c.copy_run.auto.dst ∙ v.1),
      rw c.copy_run.ensures (place_turn c.args.client.now v.0 v.2 c.requires.0.1 _ h (run_room v.0 h)),
    )

pub copy_run-requires-2 : goal.copy_run-requires-2
copy_run-requires-2 c =
    let q = last_room c.loop-parts-2.invariant.0 c.loop-parts-2-test.false in
    (omega (arith, q.row, c.loop-parts-2.invariant.1), omega (arith, in_client c.requires.0.1 q))

pub returns : goal.returns
returns c = rw c.copy_run-2.ensures (place_last c.args.client.now c.loop-parts-2.invariant.0 c.loop-parts-2.invariant.2 c.requires.0.1 c.loop-parts-2-test.false)
