-- OPU0 in numbers: "OPU0 has K = 3,808, S = 15,232, window 14,405 to 14,410", and a frame of 15,240
-- bytes; and patterns that pass and that do not (02, P11). Assumes nothing.
use Rattle.std.specs.Prelude.{◌≡◌, refl, true, false, ℕ}
use Rattle.refusals.specs.Table.{lowest}
use Rattle.gmp_settings.specs.declared.FourPatterns.{FourPatterns}
use Rattle.gmp_settings.specs.Grid.{payload_bytes, frame_bytes}
use Rattle.gmp_settings.specs.Settings.{new_settings, opu0, settings_reasons, outside}
use Rattle.gmp_settings.specs.Patterns.{bad_four}

pub opu0_size : (payload_bytes opu0.k ≡ 15232) × (frame_bytes opu0.k ≡ 15240)
opu0_size = (refl, refl)

-- the ends of the window, and the counts next to them
pub opu0_window :
    (outside opu0 14404 ≡ true)
    × (outside opu0 14405 ≡ false)
    × (outside opu0 14410 ≡ false)
    × (outside opu0 14411 ≡ true)
unfolding outside
opu0_window = (refl, refl, refl, refl)

-- "K 3,808 passes, 3,809 is grid"
pub widest : (lowest (settings_reasons opu0) ≡ 0) × (lowest (settings_reasons (new_settings 3809 14405 14410)) ≡ 1)
widest = (refl, refl)

-- four patterns in the order +1, −1, +2, −2
abbrev pub four : ℕ → ℕ → ℕ → ℕ → FourPatterns
four a b c d = record { plus1 = a; minus1 = b; plus2 = c; minus2 = d }

-- a customer's patterns: the two of a sign differ in the bits 10100101101001
abbrev pub customer : FourPatterns
customer = four 0b11110000111100 0b00001111000011 0b01010101010101 0b10101010101010

-- they pass; and so do zero patterns and a plus pattern that is a minus pattern, where the rule
-- holds
pub passing :
    (bad_four customer ≡ false)
    × (bad_four (four 0 0 1 1) ≡ false)
    × (bad_four (four 0 0 16383 16383) ≡ false)
passing = (refl, refl, refl)

-- the customer's with the last bit of −2 turned over: the minus patterns differ in a bit less than
-- the plus patterns
abbrev pub one_bit_wrong : FourPatterns
one_bit_wrong = four 0b11110000111100 0b00001111000011 0b01010101010101 0b10101010101011

-- the two patterns of a sign are the same, for both signs
abbrev pub alike : FourPatterns
alike = four 0b11110000111100 0b00001111000011 0b11110000111100 0b00001111000011

-- the customer's with one bit more in front of each
abbrev pub fifteen_bits : FourPatterns
fifteen_bits = four 0b111110000111100 0b100001111000011 0b101010101010101 0b110101010101010

-- number 14 is told of each, and where the plus patterns alone have 15 bits
pub told :
    (bad_four one_bit_wrong ≡ true)
    × (bad_four alike ≡ true)
    × (bad_four fifteen_bits ≡ true)
    × (bad_four (four 16384 0 16385 1) ≡ true)
told = (refl, refl, refl, refl)
