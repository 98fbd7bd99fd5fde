-- Of the worked places of 01, which stand in the crate claim_worked, the one that stands here too:
-- it is what goes wrong if the payload bytes are numbered from 0 (the edit rule_from_zero). Assumes
-- nothing.
use Rattle.std.specs.Prelude.{◌≡◌, refl, true, false, [], ◌∷◌, map}
use Rattle.gmp_places.specs.Places.{carries}

-- "S = 8, C = 3: places 3, 6, 8": whether each of the payload bytes 1 to 8 carries a client byte
pub three_of_eight : map (carries 3 8) (1 ∷ 2 ∷ 3 ∷ 4 ∷ 5 ∷ 6 ∷ 7 ∷ 8 ∷ []) ≡ false ∷ false ∷ true ∷ false ∷ false ∷ true ∷ false ∷ true ∷ []
three_of_eight = refl
