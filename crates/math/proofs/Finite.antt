-- Tests over finitely many numbers: antt computes one test, and a law turns it into the fact at
-- each number. Assumes nothing.
use mathlib.Core.Path.{◌≡◌, refl, subst⁻¹}
use mathlib.Core.Logic.{⊎_elim}
use mathlib.Core.Bool.{Bool, true, false, ◌&&◌}
use Prim.Native.Nat.{ℕ, zero, suc, ◌<◌}
use native.Mathlib.Nat.{eq-or-lt_of_le, le_of_suc-le-suc, not-suc-le-zero}
use lib.Dec.{T, eqb, eqb→eq}
use Rattle.math.specs.Finite.{below}

pub both_left : (a b : Bool) → T (a && b) → T a
both_left true b t = tt
both_left false b t = t

pub both_right : (a b : Bool) → T (a && b) → T b
both_right true b t = t
both_right false b t = absurd t

-- a test that passes at each number below n passes at this one
pub at_below : (f : ℕ → Bool) (n : ℕ) → T (below f n) → (k : ℕ) → k < n → T (f k)
at_below f zero t k h = absurd (not-suc-le-zero h)
at_below f (suc n) t k h =
    ⊎_elim (λ e. subst⁻¹ (λ (m : ℕ). T (f m)) e (both_left (f n) (below f n) t)) (λ l. at_below f n (both_right (f n) (below f n) t) k l)
    (eq-or-lt_of_le (le_of_suc-le-suc h))

-- two functions agree below n, by one test
pub agree_below : (f g : ℕ → ℕ) (n : ℕ) → T (below (λ k. eqb (f k) (g k)) n) → (k : ℕ) → k < n → f k ≡ g k
agree_below f g n t k h = eqb→eq (f k) (g k) (at_below (λ i. eqb (f i) (g i)) n t k h)

-- Two functions that agree below n agree at b, where only the goal shows what f makes of b. Given
-- `λ agree k h e. rw e (agree k h)` antt puts a variable k for b in the goal and reads f off it, so
-- what the code makes of b is written once, in the code.
pub agree_goal : {G : Type 0} (f g : ℕ → ℕ) (n b : ℕ) → b < n → (((k : ℕ) → k < n → f k ≡ g k) → (k : ℕ) → k < n → b ≡ k → G)
    → ((k : ℕ) → k < n → f k ≡ g k) → G
agree_goal f g n b h show agree = show agree b h refl
