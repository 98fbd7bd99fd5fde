-- `gmp_stuffing::take_runs` meets its contract: by blocks, then run by run, and the last run.
-- Assumes nothing.
use mathlib.Core.Path.{◌≡◌, refl, ◌∙◌}
use Prim.Native.Nat.{◌+◌, ◌*◌}
use native.Mathlib.Omega.{arith}
use lib.ListN.{length}
use Rattle.gmp_stuffing.proofs.Runs.{taken_none}
use Rattle.gmp_stuffing.proofs.Turns.{turn, run_room, last_room, in_client, begins, inside, block, hop_fits, hopped, counted, used_next, take_turn, take_last, take_on}
use Rattle.gmp_stuffing.proofs.take_runs.Goals as goal

pub loop-parts-init : goal.loop-parts-init
loop-parts-init c =
    let g = c.args in
    let a = begins (c.row_runs-row.ensures c.requires.0) c.requires.0 in
    let z : g.r * length g.part.now + 0 ≡ g.r * length g.part.now = omega arith in
    let none = taken_none g.r g.count g.part.now g.out.now (omega arith) (omega arith) c.requires.1 c.requires.0.1 in
    (omega (arith, a.0), a.1, refl, rw (a.1.count, z) none)

pub copy_pair-requires : goal.copy_pair-requires
copy_pair-requires c =
    let s = c.row_runs-row.ensures c.requires.0 in
    let q = block s c.loop-parts.invariant.1 c.requires.2 c.loop-parts-test.true in
    (omega (arith, in_client c.requires.0.1 q, c.loop-parts.invariant.2, c.requires.1), q.row, s.least, s.most)

pub overflow_add-parts : goal.overflow_add-parts
overflow_add-parts c =
    let s = c.row_runs-row.ensures c.requires.0 in
    hop_fits s c.loop-parts.invariant.1 (inside s c.loop-parts-test.true)

pub loop-parts-smaller : goal.loop-parts-smaller
loop-parts-smaller c =
    let h = inside (c.row_runs-row.ensures c.requires.0) c.loop-parts-test.true in
    omega (arith, h, (turn c.loop-parts.invariant.1 h).after)

pub loop-parts-preserved : goal.loop-parts-preserved
loop-parts-preserved c =
    let g = c.args in
    let s = c.row_runs-row.ensures c.requires.0 in
    let v = c.loop-parts.invariant in
    let h = inside s c.loop-parts-test.true in
    let n = counted s v.0 v.1 h in (
      n.0,
      n.1,
      c.copy_pair.auto.dst ∙ v.2,
      rw (c.copy_pair.ensures, ← used_next v.1 v.0 h) (take_turn g.part.now g.out.now v.1 v.3 c.requires.1 c.requires.0.1 _ h (block s v.1 c.requires.2 c.loop-parts-test.true)),
    )

pub loop-parts-2-init : goal.loop-parts-2-init
loop-parts-2-init c =
    let v = c.loop-parts.invariant in
    (v.1, refl, rw (take_on c.args.part.now c.args.out.now v.1 v.3 c.requires.1 c.requires.0.1) v.3)

pub overflow_sub-index : goal.overflow_sub-index
overflow_sub-index c = (turn c.loop-parts-2.invariant.0 c.loop-parts-2-test.true).after

pub copy_run-requires : goal.copy_run-requires
copy_run-requires c =
    let q = run_room c.loop-parts-2.invariant.0 c.loop-parts-2-test.true in
    (omega (arith, in_client c.requires.0.1 q, c.loop-parts-2.invariant.1, c.loop-parts.invariant.2, c.requires.1), q.row)

pub overflow_sub-taken-in-loop-parts-2 : goal.overflow_sub-taken-in-loop-parts-2
overflow_sub-taken-in-loop-parts-2 c = (turn c.loop-parts-2.invariant.0 c.loop-parts-2-test.true).after

pub loop-parts-2-smaller : goal.loop-parts-2-smaller
loop-parts-2-smaller c = omega (arith, c.loop-parts-2-test.true, (turn c.loop-parts-2.invariant.0 c.loop-parts-2-test.true).after)

pub loop-parts-2-preserved : goal.loop-parts-2-preserved
loop-parts-2-preserved c =
    let g = c.args in
    let v = c.loop-parts-2.invariant in
    let h = c.loop-parts-2-test.true in (
      hopped (c.row_runs-row.ensures c.requires.0) v.0 h,
      c.copy_run.auto.dst ∙ v.1,
      rw c.copy_run.ensures (take_turn g.part.now c.loop-parts.out v.0 v.2 (omega (arith, c.requires.1, c.loop-parts.invariant.2)) c.requires.0.1 _ h (run_room v.0 h)),
    )

pub copy_run-requires-2 : goal.copy_run-requires-2
copy_run-requires-2 c =
    let q = last_room c.loop-parts-2.invariant.0 c.loop-parts-2-test.false in
    (omega (arith, in_client c.requires.0.1 q, c.loop-parts-2.invariant.1, c.loop-parts.invariant.2, c.requires.1), omega (arith, q.row))

pub returns : goal.returns
returns c =
    let g = c.args in
    let v = c.loop-parts.invariant in
    let u = c.loop-parts-2.invariant in
    c.copy_run-2.ensures
    ∙ take_last g.part.now c.loop-parts.out u.0 u.2 (omega (arith, c.requires.1, v.2)) c.requires.0.1 c.loop-parts-2-test.false
    ∙ take_on g.part.now g.out.now v.1 v.3 c.requires.1 c.requires.0.1
