-- That a list of numbers is one of bytes, by one test. Assumes nothing.
use mathlib.Core.Path.{◌≡◌, refl, sym, subst}
use mathlib.Core.Bool.{Bool, true, false, cond}
use mathlib.Core.List.{List, [], ◌∷◌}
use Prim.Native.Nat.{ℕ, ◌<◌}
use lib.Dec.{T, ltb, ltb→lt}
use Rattle.claim_recovery.specs.Runs.{Bytes}

-- the test
abbrev pub are_bytes : List ℕ → Bool
are_bytes [] = true
are_bytes (b ∷ l) = cond (ltb b 256) (are_bytes l) false

bytes_by : (b : ℕ) (l : List ℕ) (c : Bool) → ltb b 256 ≡ c → T (cond c (are_bytes l) false) → (T (are_bytes l) → Bytes l) → (b < 256) × Bytes l
bytes_by b l true e h f = (ltb→lt b 256 (subst T (sym e) tt), f h)
bytes_by b l false e h f = absurd h

pub bytes : (l : List ℕ) → T (are_bytes l) → Bytes l
bytes [] h = tt
bytes (b ∷ l) h = bytes_by b l (ltb b 256) refl h (bytes l)
