-- `sinkshow::put_standing` meets its contract. Assumes nothing.
use native.Mathlib.Omega.{arith}
use lib.ListN.{length-set}
use Rattle.gmp_standing.specs.Standing.{standing_meaning}
use Rattle.sinkshow.proofs.Laws.{puts_append, puts_byte, name_within, count_within}
use Rattle.sinkshow.proofs.put_standing.Goals as goal

pub bounds-line-b : goal.bounds-line-b
bounds-line-b c =
    let g = c.args in
    let p = c.put_name-a in
    let q = c.put_count-b in
    omega (arith, p.ensures.next, p.ensures.kept, length-set p.new.line p.result 32, name_within g.standing, q.ensures.next, q.ensures.kept, count_within (standing_meaning g.standing).count)

pub returns : goal.returns
returns c =
    let g = c.args in
    let p = c.put_name-a in
    let q = c.put_count-b in
    let space = puts_byte p.ensures 32 (omega (arith, p.ensures.next, p.ensures.kept, name_within g.standing)) in
    puts_byte (puts_append space q.ensures) 10 (omega (arith, p.ensures.next, p.ensures.kept, length-set p.new.line p.result 32, name_within g.standing, q.ensures.next, q.ensures.kept, count_within (standing_meaning g.standing).count))
