-- `gmp_crc8_read::one_bit` meets its contract: the table's rule is one test of its 24 entries,
-- which antt computes. The table is read off the goal, and no copy of it stands here. Assumes
-- nothing.
use borrow.Author.Rules.{rules}
use Rattle.math.specs.Bits.{bits}
use Rattle.math.proofs.Finite.{agree_below, agree_goal}
use Rattle.gmp_crc8.specs.Division.{reduce, divide}
use Rattle.gmp_crc8.specs.Check.{remainder, syndrome}
use Rattle.gmp_crc8.specs.Checked.{bit_in, one_bit}
use Rattle.gmp_crc8_read.proofs.one_bit.Goals as goal

pub returns : goal.returns
unfolding one_bit bit_in syndrome remainder divide bits reduce
returns c = agree_goal _ one_bit 24 c.args.bit (search rules) (λ agree k h e. rw e (agree k h)) (agree_below _ one_bit 24 tt)
