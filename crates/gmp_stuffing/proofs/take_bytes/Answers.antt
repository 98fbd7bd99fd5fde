-- `gmp_stuffing::take_bytes` meets its contract. Assumes nothing.
use mathlib.Core.Path.{refl}
use native.Mathlib.Omega.{arith}
use lib.ListN.{length, length-set}
use Rattle.gmp_stuffing.proofs.Runs.{row_count, in_frame, taken_none, take_byte}
use Rattle.gmp_stuffing.proofs.Turns.{step_row, next_client, next_stuffing}
use Rattle.gmp_stuffing.proofs.take_bytes.Goals as goal
use Rattle.gmp_stuffing.proofs.take_bytes.Goals.{then-rest-k, else-rest-k}

pub loop-byte-init : goal.loop-byte-init
loop-byte-init c =
    let g = c.args in
    let k = length g.part.now in (
      step_row k g.count g.r (omega arith) (omega arith),
      refl,
      rw (← row_count g.r k g.count (omega arith)) (taken_none g.r g.count g.part.now g.out.now (omega arith) (omega arith) c.requires.1 c.requires.2),
    )

pub bounds-out-taken : goal.bounds-out-taken
bounds-out-taken c =
    let g = c.args in
    let v = c.loop-byte.invariant in
    let (s, n) = next_client (length g.part.now) g.count g.r (omega arith) (omega arith) v.0 (omega arith) c.if-rest-k.true in
    omega (arith, v.0.count, v.1, in_frame g.count (length g.part.now) g.r c.loop-byte.byte-index (omega arith) (omega arith) (omega arith) s c.requires.2)

pub overflow_add-taken : goal.overflow_add-taken
overflow_add-taken c = omega (arith, bounds-out-taken c)

pub loop-byte-preserved : goal.loop-byte-preserved
loop-byte-preserved c =
    let g = c.args in
    let k = length g.part.now in
    let v = c.loop-byte.invariant in
    elim c.if-rest-k.branch [
      | then-rest-k w ↦
          let (s, n) = next_client k g.count g.r (omega arith) (omega arith) v.0 (omega arith) w.if-rest-k.true in
          rw (w.taken-is, w.rest-is, w.out-is) (
            n,
            rw length-set v.1,
            take_byte g.r g.count g.part.now g.out.now (omega arith) (omega arith) c.requires.1 c.requires.2 c.loop-byte.byte-index v.2 v.0.count (omega arith) s,
          )
      | else-rest-k w ↦
          rw (w.taken-is, w.rest-is, w.out-is) ((next_stuffing k g.count g.r (omega arith) (omega arith) v.0 (omega arith) w.if-rest-k.false).1, v.1, v.2)
    ]
