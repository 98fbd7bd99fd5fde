-- Functions that are linear over exclusive-or. Two of them agree if they do at the numbers of one
-- bit. Assumes nothing.
use mathlib.Core.Path.{◌≡◌, refl, sym, ap, ap₂, ◌∙◌}
use mathlib.Core.Bool.{Bool, true, false, not}
use Prim.Native.Nat.{ℕ, zero, suc, ◌*◌, ◌-◌, ◌/◌, ◌%◌, ◌^◌, ◌≤◌, ◌<◌}
use native.Mathlib.Nat.{one-mul}
use native.Mathlib.Omega.{arith}
use lib.Bits.{bit_xor, xor_shr, xor_shifted, xor_self}
use lib.Dec.{T, eqb, eqb→eq, ltb, ltb→lt, nltb→le, lit<}
use lib.Pow.{pow_pos}
use Rattle.math.specs.Finite.{below}
use Rattle.math.specs.Linear.{Linear}
use Rattle.math.proofs.Xor.{xor_medial, xor_shl}
use Rattle.math.proofs.Finite.{both_left, both_right}

pub linear_self : (n : ℕ) → Linear n (λ x. x)
linear_self n = record { of_xor = λ a b ha hb. refl }

pub linear_xor : (n : ℕ) (f g : ℕ → ℕ) → Linear n f → Linear n g → Linear n (λ x. bit_xor (f x) (g x))
linear_xor n f g lf lg =
    record { of_xor = λ a b ha hb. ap₂ bit_xor (lf.of_xor a b ha hb) (lg.of_xor a b ha hb) ∙ xor_medial (f a) (f b) (g a) (g b) }

-- shifted to the right by j
pub linear_shr : (n j : ℕ) (f : ℕ → ℕ) → Linear n f → Linear n (λ x. f x / 2 ^ j)
linear_shr n j f lf = record { of_xor = λ a b ha hb. ap (λ (x : ℕ). x / 2 ^ j) (lf.of_xor a b ha hb) ∙ xor_shr (f a) (f b) j }

-- shifted to the left by j in w bits
pub linear_shl : (n j w : ℕ) (f : ℕ → ℕ) → Linear n f → Linear n (λ x. f x * 2 ^ j % 2 ^ w)
linear_shl n j w f lf = record { of_xor = λ a b ha hb. ap (λ (x : ℕ). x * 2 ^ j % 2 ^ w) (lf.of_xor a b ha hb) ∙ xor_shl (f a) (f b) j w }

-- by these `search` finds that what exclusive-or and shifts are put together to is linear
pub ruleset linear·rules = (linear_self, linear_xor, linear_shr, linear_shl)

-- on one bit less
fewer : (m : ℕ) (f : ℕ → ℕ) → Linear (2 ^ suc m) f → Linear (2 ^ m) f
fewer m f l = record { of_xor = λ a b ha hb. l.of_xor a b (omega arith) (omega arith) }

-- a linear function makes 0 of 0
at_zero : (f : ℕ → ℕ) → Linear 1 f → f 0 ≡ 0
at_zero f l = l.of_xor 0 0 (lit< tt) (lit< tt) ∙ xor_self (f 0)

-- a number that has the highest of m + 1 bits is this bit and the rest
highest : (m k : ℕ) → 2 ^ m ≤ k → k < 2 ^ suc m → bit_xor (2 ^ m) (k - 2 ^ m) ≡ k
highest m k l h =
    ap (λ (x : ℕ). bit_xor x (k - 2 ^ m)) (sym (one-mul (2 ^ m))) ∙ xor_shifted 1 m (k - 2 ^ m) (omega arith) ∙ omega arith

-- what agrees on m bits and at the next one agrees on m + 1 bits
one_more : (m : ℕ) (f g : ℕ → ℕ) → Linear (2 ^ suc m) f → Linear (2 ^ suc m) g → f (2 ^ m) ≡ g (2 ^ m) → ((k : ℕ) → k < 2 ^ m → f k ≡ g k)
    → (k : ℕ) → k < 2 ^ suc m → f k ≡ g k
one_more m f g lf lg e rest k h = by (ltb k (2 ^ m)) (ltb→lt k (2 ^ m)) (nltb→le k (2 ^ m))
  where
    by : (b : Bool) → (T b → k < 2 ^ m) → (T (not b) → 2 ^ m ≤ k) → f k ≡ g k
    by true low high = rest k (low tt)
    by false low high =
        let l = high tt in
        let parts = highest m k l h in
        sym (ap f parts) ∙ lf.of_xor (2 ^ m) (k - 2 ^ m) (omega (arith, pow_pos m)) (omega arith) ∙ ap₂ bit_xor e (rest (k - 2 ^ m) (omega arith))
        ∙ sym (lg.of_xor (2 ^ m) (k - 2 ^ m) (omega (arith, pow_pos m)) (omega arith)) ∙ ap g parts

-- two linear functions agree on the numbers of m bits, by one test of those with one bit
pub linear_agree : (m : ℕ) (f g : ℕ → ℕ) → Linear (2 ^ m) f → Linear (2 ^ m) g → T (below (λ i. eqb (f (2 ^ i)) (g (2 ^ i))) m)
    → (k : ℕ) → k < 2 ^ m → f k ≡ g k
linear_agree zero f g lf lg t k h =
    let e : k ≡ 0 = omega arith in ap f e ∙ at_zero f lf ∙ sym (at_zero g lg) ∙ sym (ap g e)
linear_agree (suc m) f g lf lg t k h =
    let this = eqb (f (2 ^ m)) (g (2 ^ m)) in
    let others = below (λ i. eqb (f (2 ^ i)) (g (2 ^ i))) m in
    one_more m f g lf lg (eqb→eq _ _ (both_left this others t))
    (linear_agree m f g (fewer m f lf) (fewer m g lg) (both_right this others t)) k h
