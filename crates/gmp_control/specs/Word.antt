-- The control word before its check (01, "Control word"): "JC1 holds C1 to C8, JC2 holds C9 to C14,
-- II, DI, most significant bit first". Its 16 bits are one number, JC1 × 256 + JC2. Assumes
-- nothing.
use Rattle.std.specs.Prelude.{Bool, ℕ, ◌+◌, ◌*◌, ◌/◌, ◌%◌, eqb}
use Rattle.gmp_crc8.specs.declared.WordBytes.{WordBytes}

-- "All arithmetic on count bits is modulo 16,384."
abbrev pub modulus : ℕ
modulus = 16384

-- a count after a change, which is a number modulo 16,384 too: −1 is 16,383
abbrev pub moved : ℕ → ℕ → ℕ
moved count change = (count + change) % modulus

-- the word of a count, II and DI
abbrev pub word_of : ℕ → ℕ → ℕ → ℕ
word_of count ii di = count % modulus * 4 + ii * 2 + di

-- C1 to C14, II and DI of a word
abbrev pub count_bits : ℕ → ℕ
count_bits w = w / 4 % modulus

abbrev pub ii : ℕ → ℕ
ii w = w / 2 % 2

abbrev pub di : ℕ → ℕ
di w = w % 2

-- II = DI
unfoldable pub equal_indicators : ℕ → Bool
equal_indicators w = eqb (ii w) (di w)

-- the sign of a word with II ≠ DI: 0 for plus (II), 1 for minus (DI)
abbrev pub sign : ℕ → ℕ
sign w = di w

-- JC1 and JC2 of a word, and the word of JC1 and JC2
abbrev pub word_bytes : ℕ → WordBytes
word_bytes w = record { jc1 = w / 256; jc2 = w % 256 }

abbrev pub word_by : ℕ → ℕ → ℕ
word_by jc1 jc2 = jc1 * 256 + jc2
