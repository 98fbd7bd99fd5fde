-- `sinkshow::put_left` meets its contract. Assumes nothing.
use native.Mathlib.Omega.{arith}
use Rattle.sinkshow.proofs.Laws.{puts_append, puts_byte, decimal_within}
use Rattle.sinkshow.proofs.put_left.Goals as goal

pub bounds-line-b : goal.bounds-line-b
bounds-line-b c =
    let left = c.args.left in
    let p = c.put-a.ensures in
    let q = c.put_number-b.ensures in
    omega (arith, p.next, p.kept, q.next, q.kept, decimal_within left)

pub returns : goal.returns
returns c =
    let left = c.args.left in
    let p = c.put-a.ensures in
    let q = c.put_number-b.ensures in
    puts_byte (puts_append p q) 10 (omega (arith, p.next, p.kept, q.next, q.kept, decimal_within left))
