-- What stands in the text NAMES, name by name. Assumes nothing.
use mathlib.Core.Path.{◌≡◌, refl, sym, subst}
use mathlib.Core.List.{List, [], ◌∷◌, ◌++◌}
use Prim.Native.Nat.{ℕ}
use native.Mathlib.Omega.{arith}
use lib.ListN.{replicate}
use Rattle.math.specs.Names.{Named}
use Rattle.gmp_standing.specs.declared.Standing.{Standing}
use Rattle.gmp_standing.specs.declared.Standing.TheVariants.{Read, Tracked, Paired, BadCheck, Waiting, Outside}
use Rattle.gmp_standing.specs.Standing.{READ, TRACKED, PAIRED, BADCHECK, WAITING, OUTSIDE, standing_meaning, standing_number}

-- the names of the standings in one text, each in 8 bytes, and their lengths
abbrev pub names : List ℕ
names = READ ++ replicate 4 32 ++ TRACKED ++ replicate 1 32 ++ PAIRED ++ replicate 2 32 ++ BADCHECK ++ WAITING ++ replicate 1 32 ++ OUTSIDE ++ replicate 1 32

abbrev pub name_lengths : List ℕ
name_lengths = 4 ∷ 7 ∷ 6 ∷ 8 ∷ 7 ∷ 7 ∷ []

by_number : (x : Standing) → Named 8 names name_lengths (standing_meaning x).name (standing_number (standing_meaning x).name)
by_number (Read n) = record { from_one = omega arith; to_last = omega arith; within = omega arith; content = refl }
by_number (Tracked n) = record { from_one = omega arith; to_last = omega arith; within = omega arith; content = refl }
by_number (Paired n) = record { from_one = omega arith; to_last = omega arith; within = omega arith; content = refl }
by_number BadCheck = record { from_one = omega arith; to_last = omega arith; within = omega arith; content = refl }
by_number Waiting = record { from_one = omega arith; to_last = omega arith; within = omega arith; content = refl }
by_number Outside = record { from_one = omega arith; to_last = omega arith; within = omega arith; content = refl }

-- the name of a standing stands at its number
pub named : (x : Standing) (n : ℕ) → n ≡ standing_number (standing_meaning x).name → Named 8 names name_lengths (standing_meaning x).name n
named x n e = subst (Named 8 names name_lengths (standing_meaning x).name) (sym e) (by_number x)
