-- `gmp_crc8_read::times_x8` meets its contract. The division is linear, and so are exclusive-or and
-- shifts, however the code puts them together: so the eight bytes of one bit decide, which antt
-- computes. What the code makes of a byte is read off the goal, and no copy of it stands here. An
-- exclusive-or that begins with the byte itself is not known again there, so in the code the byte
-- stands last. Assumes nothing.
use borrow.Author.Rules.{rules}
use Rattle.math.specs.Bits.{bits}
use Rattle.math.proofs.Finite.{agree_goal}
use Rattle.math.proofs.Linear.{linear_agree, linear·rules}
use Rattle.gmp_crc8.specs.Division.{reduce, divide}
use Rattle.gmp_crc8.proofs.Linear.{times_linear}
use Rattle.gmp_crc8_read.proofs.times_x8.Goals as goal

pub returns : goal.returns
unfolding divide bits reduce
returns c =
    agree_goal _ (λ k. divide k (bits 0)) 256 c.args.byte (search rules) (λ agree k h e. rw e (agree k h))
    (linear_agree 8 _ _ (search linear·rules depth 12) times_linear tt)
