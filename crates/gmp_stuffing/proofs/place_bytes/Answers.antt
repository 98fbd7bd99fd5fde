-- `gmp_stuffing::place_bytes` meets its contract. Assumes nothing.
use mathlib.Core.Path.{refl}
use native.Mathlib.Omega.{arith}
use lib.ListN.{length, length-set}
use Rattle.gmp_stuffing.proofs.Runs.{placed_none, place_byte, place_zero}
use Rattle.gmp_stuffing.proofs.Turns.{step_row, next_client, next_stuffing}
use Rattle.gmp_stuffing.proofs.place_bytes.Goals as goal
use Rattle.gmp_stuffing.proofs.place_bytes.Goals.{then-rest-k, else-rest-k}

pub loop-byte-init : goal.loop-byte-init
loop-byte-init c =
    let g = c.args in
    (step_row (length g.part.now) (length g.client.now) g.r (omega arith) (omega arith), refl, placed_none g.r g.client.now g.part.now)

pub loop-byte-preserved : goal.loop-byte-preserved
loop-byte-preserved c =
    let g = c.args in
    let k = length g.part.now in
    let v = c.loop-byte.invariant in
    elim c.if-rest-k.branch [
      | then-rest-k w ↦
          let (s, n) = next_client k (length g.client.now) g.r (omega arith) (omega arith) v.0 (omega arith) w.if-rest-k.true in
          rw (w.used-is, w.rest-is, w.part-is) (n, rw length-set v.1, place_byte k g.r g.client.now (omega arith) (omega arith) v.2 c.loop-byte.used (omega arith) s v.0.count)
      | else-rest-k w ↦
          let (s, n) = next_stuffing k (length g.client.now) g.r (omega arith) (omega arith) v.0 (omega arith) w.if-rest-k.false in
          rw (w.used-is, w.rest-is, w.part-is) (n, rw length-set v.1, place_zero k g.r g.client.now (omega arith) (omega arith) v.2 (omega arith) s)
    ]
