-- What the rule for the accepted type comes to, over all the types that were judged. Assumes
-- nothing.
use Rattle.std.specs.Prelude.{◌≡◌, cond, ◌&&◌, List, [], ◌∷◌, ℕ, eqb}
use Rattle.std.specs.Prelude.{Option, Some, None}
use Rattle.gmp_payload_type.specs.declared.Types.{Types}
use Rattle.gmp_payload_type.specs.Types.{new_types, judged}

-- what a new sink remembers after these types, the last one first
abbrev pub judged_all : List ℕ → Types
judged_all [] = new_types
judged_all (k ∷ ks) = judged (judged_all ks) k

-- the type of the last three running that are the same, or none
abbrev pub last_three : List ℕ → Option ℕ
last_three [] = None
last_three (a ∷ []) = None
last_three (a ∷ b ∷ []) = None
last_three (a ∷ b ∷ c ∷ ks) = cond (eqb b a && eqb c b) (Some a) (last_three (b ∷ c ∷ ks))

-- From any state three frames running with one type have it accepted. And only three do: a new sink
-- has accepted the last type that came three times running, and none where none did.
pub record ThreeRunning : Type 0 where
  pub from_any : (t : Types) (k : ℕ) → (judged (judged (judged t k) k) k).accepted ≡ Some k
  pub only_three : (ks : List ℕ) → (judged_all ks).accepted ≡ last_three ks
