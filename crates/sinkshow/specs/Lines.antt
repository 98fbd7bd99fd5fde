-- The lines that the program writes (01, "The program sinkshow"), in ASCII. Assumes nothing.
use Rattle.std.specs.Prelude.{cond, List, [], ◌∷◌, ◌++◌, ℕ, zero, suc, ◌/◌, ◌%◌, ltb, eqb}
use Rattle.io.specs.Digits.{hex_digit_ascii}
use Rattle.gmp_standing.specs.declared.Count.{Count}
use Rattle.gmp_standing.specs.declared.Count.TheVariants.{Known, Unknown}
use Rattle.gmp_standing.specs.Standing.{Finding}

-- the last decimal digits of n, at most so many: those of its whole tenth, where n is 10 or more,
-- and the last one
unfoldable pub last_digits_of : ℕ → ℕ → List ℕ
last_digits_of zero n = []
last_digits_of (suc most) n = cond (ltb n 10) [] (last_digits_of most (n / 10)) ++ (hex_digit_ascii (n % 10) ∷ [])

-- a number in decimal; 20 digits hold every number of 64 bits
abbrev pub decimal : ℕ → List ℕ
decimal n = last_digits_of 20 n

-- " "
abbrev pub space : List ℕ
space = 32 ∷ []

-- "-"
abbrev pub dash : List ℕ
dash = 45 ∷ []

-- "LEFT"
abbrev pub LEFT : List ℕ
LEFT = 76 ∷ 69 ∷ 70 ∷ 84 ∷ []

-- the end of a line
abbrev pub newline : List ℕ
newline = 10 ∷ []

-- "count or "-""
abbrev pub count_text : Count → List ℕ
count_text (Known n) = decimal n
count_text Unknown = dash

-- "frame number from 1, bytes handed,"
abbrev pub numbers_text : ℕ → ℕ → List ℕ
numbers_text frameNumber handed = decimal frameNumber ++ space ++ decimal handed ++ space

-- "standing, count or "-""
abbrev pub standing_text : Finding → List ℕ
standing_text f = f.name ++ space ++ count_text f.count ++ newline

-- "Per frame one line"
abbrev pub frame_line : ℕ → ℕ → Finding → List ℕ
frame_line frameNumber handed f = numbers_text frameNumber handed ++ standing_text f

-- "a last line, "LEFT", a space and its length"
abbrev pub rest_line : ℕ → List ℕ
rest_line n = LEFT ++ space ++ decimal n ++ newline

-- "A rest of 1 to 15 bytes gives a last line ..; without a rest there is no such line."
abbrev pub rest_text : ℕ → List ℕ
rest_text n = cond (eqb n 0) [] (rest_line n)
