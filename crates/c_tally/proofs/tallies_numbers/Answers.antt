-- `c_tally::tallies_numbers` meets its contract. Assumes nothing.
use native.Mathlib.Omega.{arith}
use lib.ListN.{length-set}
use Rattle.c_tally.proofs.Listed.{numbers_more, numbers_all}
use Rattle.c_tally.proofs.tallies_numbers.Goals as goal

pub loop-place-preserved : goal.loop-place-preserved
loop-place-preserved c =
    let l = c.loop-place in
    record {
      many = simp length-set l.invariant.many;
      so_far = numbers_more c.args.tallies l.numbers l.place l.invariant.many c.loop-place-test.true l.invariant.so_far;
    }

pub returns : goal.returns
returns c =
    let l = c.loop-place in
    numbers_all c.args.tallies l.numbers l.place l.invariant.many (omega arith) l.invariant.so_far
