-- The check (01, "Control word"; clause 17.7.1): JC3 is the remainder of JC1 and JC2, and a word
-- passes if its JC3 is that. Assumes nothing.
use Rattle.std.specs.Prelude.{Bool, List, ◌++◌, ℕ, eqb}
use Rattle.std.specs.Int.Bits.{bit_xor}
use Rattle.math.specs.Bits.{bits, differing}
use Rattle.gmp_crc8.specs.Division.{divide}

-- "JC3 is the remainder of the 16 bits times x^8 by x^8 + x^3 + x^2 + 1"
unfoldable pub remainder : ℕ → ℕ → ℕ
remainder jc1 jc2 = divide 0 (bits jc1 ++ (bits jc2 ++ bits 0))

-- the three bytes pass the check
unfoldable pub passes : ℕ → ℕ → ℕ → Bool
passes jc1 jc2 jc3 = eqb jc3 (remainder jc1 jc2)

-- the remainder of the three bytes as read (02, P1): "In the absence of bit errors, the remainder
-- shall be 0000 0000" (clause 17.7.1)
unfoldable pub syndrome : ℕ → ℕ → ℕ → ℕ
syndrome jc1 jc2 jc3 = bit_xor jc3 (remainder jc1 jc2)

-- the 24 bits of JC1 to JC3
unfoldable pub word : ℕ → ℕ → ℕ → List Bool
word jc1 jc2 jc3 = bits jc1 ++ (bits jc2 ++ bits jc3)

-- the number of bits of JC1 to JC3, of 24, that differ from the written ones
unfoldable pub wrong_bits : (a b c x y z : ℕ) → ℕ
wrong_bits a b c x y z = differing (word a b c) (word x y z)
