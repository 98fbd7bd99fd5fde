-- `gmp_crc8_read::wrong_bit` meets its contract: the search, from the last bit to the first.
-- Assumes nothing.
use Rattle.gmp_crc8.proofs.Mending.{Searched}
use Rattle.gmp_crc8_read.proofs.wrong_bit.Given as goal

abbrev pub invariant-loop-bit : goal.invariant-loop-bit
invariant-loop-bit l = Searched l.syndrome l.bit l.found
