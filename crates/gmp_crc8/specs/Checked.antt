-- What a control word reads as (02, P1): whole, mended or bad. Assumes nothing.
use Rattle.std.specs.Prelude.{Bool, cond, ℕ, zero, suc, ◌/◌, ◌%◌, ◌^◌, eqb, ltb}
use Rattle.std.specs.Int.Bits.{bit_xor}
use Rattle.gmp_crc8.specs.declared.WordBytes.{WordBytes}
use Rattle.gmp_crc8.specs.declared.CheckedWord.{CheckedWord}
use Rattle.gmp_crc8.specs.declared.CheckedWord.TheVariants.{Whole, Mended, Bad}
use Rattle.gmp_crc8.specs.Check.{passes, syndrome}

abbrev pub read_word : ℕ → ℕ → WordBytes
read_word jc1 jc2 = record { jc1 = jc1; jc2 = jc2 }

-- "the 24": the bits of JC1 to JC3 are numbered 0 to 23, most significant first. In byte 0, 1 or 2
-- such a bit is one of the byte's eight, or nothing.
unfoldable pub bit_in : ℕ → ℕ → ℕ
bit_in byte bit = cond (eqb (bit / 8) byte) (128 / 2 ^ (bit % 8)) 0

-- "that of one wrong bit among the 24": the remainder of a word in which this bit alone is set
unfoldable pub one_bit : ℕ → ℕ
one_bit bit = syndrome (bit_in 0 bit) (bit_in 1 bit) (bit_in 2 bit)

-- the word with that bit flipped: a bit of JC3 is none of the word's
unfoldable pub flipped : ℕ → ℕ → ℕ → WordBytes
flipped jc1 jc2 bit = read_word (bit_xor jc1 (bit_in 0 bit)) (bit_xor jc2 (bit_in 1 bit))

-- the first of so many bits from this one on that alone is wrong where this is the remainder, or
-- the number behind them
unfoldable pub first_with : ℕ → ℕ → ℕ → ℕ
first_with r zero bit = bit
first_with r (suc n) bit = cond (eqb (one_bit bit) r) bit (first_with r n (suc bit))

-- "a remainder equal to that of one wrong bit among the 24": that bit, or 24 where there is none
unfoldable pub wrong_bit : ℕ → ℕ
wrong_bit r = first_with r 24 0

-- "has that bit flipped before reading .. Any other remainder but zero stays BADCHECK."
unfoldable pub mended : ℕ → ℕ → ℕ → CheckedWord
mended jc1 jc2 r = cond (ltb (wrong_bit r) 24) (Mended (flipped jc1 jc2 (wrong_bit r))) Bad

-- what the three bytes read as; mending is "A new setting"
unfoldable pub checked_word : Bool → ℕ → ℕ → ℕ → CheckedWord
checked_word mending jc1 jc2 jc3 =
    cond (passes jc1 jc2 jc3) (Whole (read_word jc1 jc2)) (cond mending (mended jc1 jc2 (syndrome jc1 jc2 jc3)) Bad)
