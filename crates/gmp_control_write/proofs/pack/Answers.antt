-- `gmp_control_write::pack` meets its contract: the word is the sum of its fields, and each byte a
-- part of it. Assumes nothing.
use lib.Bits.{and_mask}
use borrow.Author.Rules.{rules}
use Rattle.gmp_control.specs.Word.{word_of}
use Rattle.gmp_control_write.proofs.Packing.{packed_sum}
use Rattle.gmp_control_write.proofs.pack.Goals as goal

pub returns : goal.returns
returns c =
    let g = c.args in
    rw (packed_sum g.count g.ii g.di (search rules) (search rules), and_mask (word_of g.count g.ii g.di) 8)
