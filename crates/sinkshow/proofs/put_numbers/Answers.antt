-- `sinkshow::put_numbers` meets its contract. Assumes nothing.
use native.Mathlib.Omega.{arith}
use lib.ListN.{length-set}
use Rattle.sinkshow.proofs.Laws.{puts_append, puts_byte, decimal_within}
use Rattle.sinkshow.proofs.put_numbers.Goals as goal

pub bounds-line-a : goal.bounds-line-a
bounds-line-a c =
    let g = c.args in
    let p = c.put_number-a in
    omega (arith, p.ensures.next, p.ensures.kept, decimal_within g.frame_number)

pub put_number-b-requires : goal.put_number-b-requires
put_number-b-requires c =
    let g = c.args in
    let p = c.put_number-a in
    omega (arith, p.ensures.next, p.ensures.kept, length-set p.new.line p.result 32, decimal_within g.frame_number)

pub bounds-line-b : goal.bounds-line-b
bounds-line-b c =
    let g = c.args in
    let p = c.put_number-a in
    let q = c.put_number-b in
    omega (arith, p.ensures.next, p.ensures.kept, length-set p.new.line p.result 32, decimal_within g.frame_number, q.ensures.next, q.ensures.kept, decimal_within g.handed)

pub returns : goal.returns
returns c =
    let g = c.args in
    let p = c.put_number-a in
    let q = c.put_number-b in
    let space = puts_byte p.ensures 32 (omega (arith, p.ensures.next, p.ensures.kept, decimal_within g.frame_number)) in
    puts_byte (puts_append space q.ensures) 32 (omega (arith, p.ensures.next, p.ensures.kept, length-set p.new.line p.result 32, decimal_within g.frame_number, q.ensures.next, q.ensures.kept, decimal_within g.handed))
