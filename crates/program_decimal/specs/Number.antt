-- The number that a text spells in decimal, in ASCII: one digit or more, of 32 bits. Assumes
-- nothing.
use Rattle.std.specs.Prelude.{Bool, false, cond, ◌||◌, List, [], ◌∷◌, ℕ, ◌+◌, ◌-◌, ◌*◌, ltb, eqb, length, Option, Some, None}

-- a byte below "0" or above "9" is no digit
abbrev pub no_digit : ℕ → Bool
no_digit d = ltb d 48 || ltb 57 d

-- a text with another byte than digits
unfoldable pub stray : List ℕ → Bool
stray [] = false
stray (d ∷ s) = no_digit d || stray s

-- a number with one digit more
abbrev pub appended : ℕ → ℕ → ℕ
appended n d = n * 10 + (d - 48)

-- a number with all digits of a text behind it
unfoldable pub value_from : ℕ → List ℕ → ℕ
value_from n [] = n
value_from n (d ∷ s) = value_from (appended n d) s

-- a number where it fits 32 bits
abbrev pub fitted : ℕ → Option ℕ
fitted n = cond (ltb 4294967295 n) None (Some n)

-- a number with one digit more, where it fits
abbrev pub with_digit : ℕ → ℕ → Option ℕ
with_digit n d = cond (no_digit d) None (fitted (appended n d))

-- a number with the text behind it
unfoldable pub number_from : ℕ → List ℕ → Option ℕ
number_from n s = cond (stray s) None (fitted (value_from n s))

-- no digit at all spells none
unfoldable pub number_of : List ℕ → Option ℕ
number_of s = cond (eqb (length s) 0) None (number_from 0 s)
