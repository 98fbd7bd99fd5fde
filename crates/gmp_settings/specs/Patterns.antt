-- The inversion patterns that settings carry, and when they are refused (02, P11). Assumes nothing.
use Rattle.std.specs.Prelude.{Bool, false, not, ◌||◌, ℕ, ltb, eqb}
use Rattle.std.specs.Int.Bits.{bit_xor}
use Rattle.gmp_settings.specs.declared.Settings.{Settings}
use Rattle.gmp_settings.specs.declared.Patterns.{Patterns}
use Rattle.gmp_settings.specs.declared.Patterns.TheVariants.{Standard, Given}
use Rattle.gmp_settings.specs.declared.FourPatterns.{FourPatterns}

-- "The exclusive-or of the two plus patterns must equal that of the two minus patterns and must not
-- be zero."
abbrev pub breaks_rule : FourPatterns → Bool
breaks_rule p =
    not (eqb (bit_xor p.plus1 p.plus2) (bit_xor p.minus1 p.minus2)) || eqb (bit_xor p.plus1 p.plus2) 0

-- the largest number of 14 bits
abbrev pub widest_pattern : ℕ
widest_pattern = 16383

-- a pattern exceeds 14 bits
abbrev pub exceeds : FourPatterns → Bool
exceeds p = ltb widest_pattern p.plus1 || ltb widest_pattern p.minus1 || ltb widest_pattern p.plus2 || ltb widest_pattern p.minus2

-- "four that break the rule or exceed 14 bits"
abbrev pub bad_four : FourPatterns → Bool
bad_four p = breaks_rule p || exceeds p

-- the standard's patterns keep the rule and are not asked
abbrev pub bad_given : Patterns → Bool
bad_given Standard = false
bad_given (Given p) = bad_four p

-- number 14, patterns
abbrev pub bad_patterns : Settings → Bool
bad_patterns s = bad_given s.patterns
