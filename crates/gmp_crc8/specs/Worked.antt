-- Worked words with wrong bits (02, P1), and those that show that the budget is as large as it can
-- be. The starred words of 01 stand in the crate claim_worked. Assumes nothing.
use Rattle.std.specs.Prelude.{◌≡◌, refl, true, false}
use Rattle.std.proofs.Math.Bool.{xor}
use Rattle.math.specs.Bits.{bits, differing}
use Rattle.gmp_crc8.specs.Division.{reduce, divide}
use Rattle.gmp_crc8.specs.declared.CheckedWord.TheVariants.{Whole, Mended, Bad}
use Rattle.gmp_crc8.specs.Check.{remainder, passes, syndrome, word, wrong_bits}
use Rattle.gmp_crc8.specs.Checked.{read_word, one_bit, first_with, wrong_bit, mended, checked_word, bit_in, flipped}

-- four wrong bits can pass: two words that both pass differ in four places
pub four_wrong : (passes 0x00 0x00 0x00 ≡ true) × (passes 0x00 0xA0 0x03 ≡ true) × (wrong_bits 0x00 0x00 0x00 0x00 0xA0 0x03 ≡ 4)
unfolding passes remainder divide reduce bits word differing xor wrong_bits
four_wrong = (refl, refl, refl)

-- E1 1C 6E with its first bit wrong, with the last one of JC2, and with the last one of JC3: mended
-- where mending is on, and bad where it is off
pub one_wrong :
    (checked_word true 0x61 0x1C 0x6E ≡ Mended (read_word 0xE1 0x1C))
    × (checked_word true 0xE1 0x1D 0x6E ≡ Mended (read_word 0xE1 0x1C))
    × (checked_word true 0xE1 0x1C 0x6F ≡ Mended (read_word 0xE1 0x1C))
    × (checked_word false 0x61 0x1C 0x6E ≡ Bad)
    × (checked_word false 0xE1 0x1C 0x6F ≡ Bad)
unfolding checked_word mended wrong_bit first_with one_bit syndrome passes remainder divide reduce bits bit_in flipped
one_wrong = (refl, refl, refl, refl, refl)

-- the word itself is whole either way, and with two wrong bits it is bad
pub none_and_two :
    (checked_word true 0xE1 0x1C 0x6E ≡ Whole (read_word 0xE1 0x1C))
    × (checked_word false 0xE1 0x1C 0x6E ≡ Whole (read_word 0xE1 0x1C))
    × (checked_word true 0xE1 0x1D 0x6F ≡ Bad)
unfolding checked_word mended wrong_bit first_with one_bit syndrome passes remainder divide reduce bits bit_in flipped
none_and_two = (refl, refl, refl)

-- with mending on three wrong bits can give another word: 00 00 00 read as 00 10 C0
pub three_wrong : (checked_word true 0x00 0x10 0xC0 ≡ Mended (read_word 0x00 0x10)) × (wrong_bits 0x00 0x00 0x00 0x00 0x10 0xC0 ≡ 3)
unfolding checked_word mended wrong_bit first_with one_bit syndrome passes remainder divide reduce bits word differing xor bit_in flipped wrong_bits
three_wrong = (refl, refl)
