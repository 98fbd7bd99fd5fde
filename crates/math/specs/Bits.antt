-- The bits of a byte, most significant first, and the number of places at which two lists of bits
-- differ. Assumes nothing.
use Rattle.std.specs.Prelude.{Bool, cond, List, [], ◌∷◌, ℕ, ◌+◌, ◌/◌, ◌%◌, eqb}
use Rattle.std.specs.Bool.{xor}

-- a bit as a number
abbrev pub digit : Bool → ℕ
digit b = cond b 1 0

abbrev pub odd : ℕ → Bool
odd n = eqb (n % 2) 1

-- the bits of a byte, most significant first
unfoldable pub bits : ℕ → List Bool
bits x = odd (x / 128) ∷ odd (x / 64) ∷ odd (x / 32) ∷ odd (x / 16) ∷ odd (x / 8) ∷ odd (x / 4) ∷ odd (x / 2) ∷ odd x ∷ []

-- the number of places at which two lists of bits differ
unfoldable pub differing : List Bool → List Bool → ℕ
differing [] ys = 0
differing (x ∷ xs) [] = 0
differing (x ∷ xs) (y ∷ ys) = digit (xor x y) + differing xs ys
