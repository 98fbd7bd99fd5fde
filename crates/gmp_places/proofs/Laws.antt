-- What other crates cite of the stuffing places. Assumes nothing.
use mathlib.Core.Path.{◌≡◌, sym, ◌∙◌}
use mathlib.Core.Bool.{true, true≢false}
use mathlib.Core.Logic.{◌↔◌, ⊎_elim}
use Prim.Native.Nat.{ℕ, ◌+◌, ◌*◌, ◌/◌, ◌≤◌}
use native.Mathlib.Omega.{arith}
use Rattle.gmp_places.specs.Places.{carries, places}
use Rattle.gmp_places.proofs.Steps.{step, count_all, places_whole}

-- "among the first n exactly the whole part of n × C / S"
pub places_are : (C S : ℕ) → C ≤ S → (n : ℕ) → places C S n ≡ n * C / S
places_are = places_whole

-- "exactly C such places"
pub places_all : (C S : ℕ) → C ≤ S → places C S S ≡ C
places_all C S le = places_are C S le S ∙ count_all C S le

-- a place carries a client byte exactly where the whole part steps
pub carries_steps : (C S : ℕ) → C ≤ S → (n : ℕ) → (carries C S (n + 1) ≡ true) ↔ ((n + 1) * C / S ≡ n * C / S + 1)
carries_steps C S le n =
    ⊎_elim
    (λ s. (λ _. s.count, λ _. s.place))
    (λ s. (λ t. absurd (true≢false (sym t ∙ s.place)), λ e. absurd (omega (arith, s.count))))
    (step C S le n)
