-- The stuffing places (01, "Placing"). C is the count, S the number of payload bytes. Payload bytes
-- are numbered from 1. Assumes nothing.
use Rattle.std.specs.Prelude.{◌≡◌, Bool, cond, List, [], ◌∷◌, ◌++◌, ℕ, zero, suc, ◌+◌, ◌-◌, ◌*◌, ◌/◌, ◌%◌, ◌≤◌, get_or, ltb}

-- "payload byte n carries a client byte if n × C mod S < C"
abbrev pub carries : ℕ → ℕ → ℕ → Bool
carries C S n = ltb (n * C % S) C

-- how many of the payload bytes 1 to n carry a client byte
unfoldable pub places : ℕ → ℕ → ℕ → ℕ
places C S zero = 0
places C S (suc n) = places C S n + cond (carries C S (suc n)) 1 0

-- Payload byte n. "Client bytes keep their order": it is the client byte that as many stand before
-- as there are places before n; "otherwise it is stuffing, written as zero".
unfoldable pub placed : ℕ → ℕ → List ℕ → ℕ → ℕ
placed C S client n = cond (carries C S n) (get_or client (places C S (n - 1)) 0) 0

-- the k values f (n + 1), f (n + 2), .., f (n + k)
unfoldable pub tabulate : (ℕ → ℕ) → ℕ → ℕ → List ℕ
tabulate f n zero = []
tabulate f n (suc k) = tabulate f n k ++ (f (n + k + 1) ∷ [])

-- of the payload bytes n + 1, n + 2, .. those that carry client bytes, in order
unfoldable pub chosen : ℕ → ℕ → ℕ → List ℕ → List ℕ
chosen C S n [] = []
chosen C S n (b ∷ bytes) = cond (carries C S (n + 1)) (b ∷ []) [] ++ chosen C S (n + 1) bytes

-- "There are exactly C such places, and among the first n exactly the whole part of n × C / S."
pub record PlacesCounted : Type 0 where
  pub all : (C S : ℕ) → C ≤ S → places C S S ≡ C
  pub first : (C S : ℕ) → C ≤ S → (n : ℕ) → places C S n ≡ n * C / S
