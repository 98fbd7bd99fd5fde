-- The six standings (01, "Sink"): "one of these six standings, each with what it found: a count, or
-- nothing". Assumes nothing.
use Rattle.std.specs.Prelude.{cond, List, [], ◌∷◌, ℕ}
use Rattle.math.specs.Choice.{same_list}
use Rattle.gmp_standing.specs.declared.Count.{Count}
use Rattle.gmp_standing.specs.declared.Count.TheVariants.{Known, Unknown}
use Rattle.gmp_standing.specs.declared.Standing.{Standing}
use Rattle.gmp_standing.specs.declared.Standing.TheVariants.{Read, Tracked, Paired, BadCheck, Waiting, Outside}

-- a standing as the paper writes it: its name, in ASCII, and what it found
pub record Finding : Type 0 where
  pub name : List ℕ
  pub count : Count

abbrev pub finding : List ℕ → Count → Finding
finding name count = record { name = name; count = count }

-- the names of the standings (01 writes them in capitals)
abbrev pub READ : List ℕ
READ = 82 ∷ 69 ∷ 65 ∷ 68 ∷ []

abbrev pub TRACKED : List ℕ
TRACKED = 84 ∷ 82 ∷ 65 ∷ 67 ∷ 75 ∷ 69 ∷ 68 ∷ []

abbrev pub PAIRED : List ℕ
PAIRED = 80 ∷ 65 ∷ 73 ∷ 82 ∷ 69 ∷ 68 ∷ []

abbrev pub BADCHECK : List ℕ
BADCHECK = 66 ∷ 65 ∷ 68 ∷ 67 ∷ 72 ∷ 69 ∷ 67 ∷ 75 ∷ []

abbrev pub WAITING : List ℕ
WAITING = 87 ∷ 65 ∷ 73 ∷ 84 ∷ 73 ∷ 78 ∷ 71 ∷ []

abbrev pub OUTSIDE : List ℕ
OUTSIDE = 79 ∷ 85 ∷ 84 ∷ 83 ∷ 73 ∷ 68 ∷ 69 ∷ []

-- what each case means in the paper: the name, and what was found
abbrev pub standing_meaning : Standing → Finding
standing_meaning (Read n) = finding READ (Known n)
standing_meaning (Tracked n) = finding TRACKED (Known n)
standing_meaning (Paired n) = finding PAIRED (Known n)
standing_meaning BadCheck = finding BADCHECK Unknown
standing_meaning Waiting = finding WAITING Unknown
standing_meaning Outside = finding OUTSIDE Unknown

-- a standing by its number, for programs: READ 1, TRACKED 2, PAIRED 3, BADCHECK 4, WAITING 5,
-- OUTSIDE 6
abbrev pub standing_number : List ℕ → ℕ
standing_number name =
    cond (same_list name READ) 1
    (cond (same_list name TRACKED) 2
    (cond (same_list name PAIRED) 3
    (cond (same_list name BADCHECK) 4
    (cond (same_list name WAITING) 5
    (cond (same_list name OUTSIDE) 6 0)))))
