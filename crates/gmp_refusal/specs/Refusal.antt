-- The refusals of the mapper's calls (01, "Why a call is turned back"): "No." and "Word" of each;
-- and 02, P2: "Refused: 10 "port"", and P11: "Refused: 14 "patterns"". Assumes nothing.
use Rattle.std.specs.Prelude.{List, [], ◌∷◌, ℕ}
use Rattle.gmp_refusal.specs.declared.Refusal.{Refusal}
use Rattle.gmp_refusal.specs.declared.Refusal.TheVariants.{Grid, Window, Divisor, Rate, State, Count, Client, Frame, Space, Port, Patterns}
use Rattle.std.specs.Prelude.{Result, Ok, Err}

-- the paper's number of each refusal
abbrev pub refusal_number : Refusal → ℕ
refusal_number Grid = 1
refusal_number Window = 2
refusal_number Divisor = 3
refusal_number Rate = 4
refusal_number State = 5
refusal_number Count = 6
refusal_number Client = 7
refusal_number Frame = 8
refusal_number Space = 9
refusal_number Port = 10
refusal_number Patterns = 14

-- the place of each in the order of the numbers
abbrev pub refusal_place : Refusal → ℕ
refusal_place Grid = 1
refusal_place Window = 2
refusal_place Divisor = 3
refusal_place Rate = 4
refusal_place State = 5
refusal_place Count = 6
refusal_place Client = 7
refusal_place Frame = 8
refusal_place Space = 9
refusal_place Port = 10
refusal_place Patterns = 11

-- the paper's word of each refusal, in ASCII
abbrev pub refusal_name : Refusal → List ℕ
refusal_name Grid = 103 ∷ 114 ∷ 105 ∷ 100 ∷ []
refusal_name Window = 119 ∷ 105 ∷ 110 ∷ 100 ∷ 111 ∷ 119 ∷ []
refusal_name Divisor = 100 ∷ 105 ∷ 118 ∷ 105 ∷ 115 ∷ 111 ∷ 114 ∷ []
refusal_name Rate = 114 ∷ 97 ∷ 116 ∷ 101 ∷ []
refusal_name State = 115 ∷ 116 ∷ 97 ∷ 116 ∷ 101 ∷ []
refusal_name Count = 99 ∷ 111 ∷ 117 ∷ 110 ∷ 116 ∷ []
refusal_name Client = 99 ∷ 108 ∷ 105 ∷ 101 ∷ 110 ∷ 116 ∷ []
refusal_name Frame = 102 ∷ 114 ∷ 97 ∷ 109 ∷ 101 ∷ []
refusal_name Space = 115 ∷ 112 ∷ 97 ∷ 99 ∷ 101 ∷ []
refusal_name Port = 112 ∷ 111 ∷ 114 ∷ 116 ∷ []
refusal_name Patterns = 112 ∷ 97 ∷ 116 ∷ 116 ∷ 101 ∷ 114 ∷ 110 ∷ 115 ∷ []

-- the number of a verdict; an accepted call has none of the paper's numbers, which begin at 1, and
-- is 0 here
abbrev pub verdict_number : Result (Unit {0}) Refusal → ℕ
verdict_number (Ok tt) = 0
verdict_number (Err r) = refusal_number r
