-- What stands in the text NAMES, name by name. Assumes nothing.
use mathlib.Core.Path.{◌≡◌, refl, sym, subst}
use mathlib.Core.List.{List, [], ◌∷◌, ◌++◌}
use Prim.Native.Nat.{ℕ}
use native.Mathlib.Omega.{arith}
use lib.ListN.{replicate}
use Rattle.math.specs.Names.{Named}
use Rattle.gmp_refusal.specs.declared.Refusal.{Refusal}
use Rattle.gmp_refusal.specs.declared.Refusal.TheVariants.{Grid, Window, Divisor, Rate, State, Count, Client, Frame, Space, Port, Patterns}
use Rattle.gmp_refusal.specs.Refusal.{refusal_place, refusal_name}

-- the names of the refusals in one text, each in 8 bytes, and their lengths
abbrev pub names : List ℕ
names =
    refusal_name Grid ++ replicate 4 32 ++ refusal_name Window ++ replicate 2 32 ++ refusal_name Divisor ++ replicate 1 32
    ++ refusal_name Rate ++ replicate 4 32 ++ refusal_name State ++ replicate 3 32 ++ refusal_name Count ++ replicate 3 32
    ++ refusal_name Client ++ replicate 2 32 ++ refusal_name Frame ++ replicate 3 32 ++ refusal_name Space ++ replicate 3 32
    ++ refusal_name Port ++ replicate 4 32 ++ refusal_name Patterns

abbrev pub name_lengths : List ℕ
name_lengths = 4 ∷ 6 ∷ 7 ∷ 4 ∷ 5 ∷ 5 ∷ 6 ∷ 5 ∷ 5 ∷ 4 ∷ 8 ∷ []

by_place : (x : Refusal) → Named 8 names name_lengths (refusal_name x) (refusal_place x)
by_place Grid = record { from_one = omega arith; to_last = omega arith; within = omega arith; content = refl }
by_place Window = record { from_one = omega arith; to_last = omega arith; within = omega arith; content = refl }
by_place Divisor = record { from_one = omega arith; to_last = omega arith; within = omega arith; content = refl }
by_place Rate = record { from_one = omega arith; to_last = omega arith; within = omega arith; content = refl }
by_place State = record { from_one = omega arith; to_last = omega arith; within = omega arith; content = refl }
by_place Count = record { from_one = omega arith; to_last = omega arith; within = omega arith; content = refl }
by_place Client = record { from_one = omega arith; to_last = omega arith; within = omega arith; content = refl }
by_place Frame = record { from_one = omega arith; to_last = omega arith; within = omega arith; content = refl }
by_place Space = record { from_one = omega arith; to_last = omega arith; within = omega arith; content = refl }
by_place Port = record { from_one = omega arith; to_last = omega arith; within = omega arith; content = refl }
by_place Patterns = record { from_one = omega arith; to_last = omega arith; within = omega arith; content = refl }

-- the name of a refusal stands at its place
pub named : (x : Refusal) (n : ℕ) → n ≡ refusal_place x → Named 8 names name_lengths (refusal_name x) n
named x n e = subst (Named 8 names name_lengths (refusal_name x)) (sym e) (by_place x)
