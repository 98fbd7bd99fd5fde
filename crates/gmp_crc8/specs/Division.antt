-- Long division of polynomials over two elements. A polynomial is the number whose binary digits
-- are its coefficients, and the sum of two of them is `bit_xor`. Assumes nothing.
use Rattle.std.specs.Prelude.{Bool, cond, List, [], ◌∷◌, ℕ, ◌+◌, ◌*◌, ltb}
use Rattle.std.specs.Int.Bits.{bit_xor}
use Rattle.math.specs.Bits.{digit}

-- "x^8 + x^3 + x^2 + 1"
abbrev pub generator : ℕ
generator = 0b1_0000_1101

-- a polynomial of degree 8 at most, less the generator where its x^8 stands
unfoldable pub reduce : ℕ → ℕ
reduce t = cond (ltb t 256) t (bit_xor t generator)

-- the long division: the remainder so far, and the digits that are still to be brought down,
-- highest first
unfoldable pub divide : ℕ → List Bool → ℕ
divide r [] = r
divide r (b ∷ bs) = divide (reduce (r * 2 + digit b)) bs
