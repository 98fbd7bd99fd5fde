-- Rounding to the nearest whole number, exact halves going up. The rounded total is the one number
-- that is nearest, and half of q before the counts makes their sum nearest. Assumes nothing.
use mathlib.Core.Path.{◌≡◌, refl, sym, ◌∙◌}
use mathlib.Core.Bool.{Bool, true, false}
use Prim.Native.Nat.{ℕ, ◌+◌, ◌*◌, ◌/◌, ◌%◌, ◌≤◌, ◌<◌}
use native.Mathlib.Nat.{add-mul, div-add-mod, div-eq_of_lt-le, mod-lt, mul-add, mul_assoc, mul_comm, mul-le-mul_left}
use native.Mathlib.Omega.{arith}
use lib.Dec.{ltb}
use borrow.Author.Tests.{ltb-true, ltb-false}
use Rattle.gmp_keeper.specs.Keeper.{first_remainder}
use Rattle.gmp_keeper.specs.Sum.{rounded_total}
use Rattle.gmp_keeper.specs.Nearest.{Nearest, apart}

-- T is the whole part of n / m
pub whole_part : (m n T : ℕ) → m * T ≤ n → n < m * T + m → n / m ≡ T
whole_part m n T low high = div-eq_of_lt-le m (omega (arith, mul_comm m T)) (omega (arith, add-mul T 1 m, mul_comm m T))

-- with half of q first, what comes in is q × T and less than q left over: twice that, and one more
-- where q is odd, is below 2 × q
pub half_rounds : (t p q T left : ℕ) → left < q → q * T + left ≡ first_remainder q + t * p → Nearest t p q T
half_rounds t p q T left below same =
    record {
      above = omega (arith, mul_assoc 2 t p, mul_assoc 2 q T);
      below = omega (arith, mul_assoc 2 t p, mul_assoc 2 q T);
    }

-- the nearest is the rounded total; another quotient in its place would be judged by its numbers
pub nearest_is : (t p q T : ℕ) → Nearest t p q T → rounded_total t p q ≡ T
nearest_is t p q T n =
    whole_part _ _ T (omega (arith, mul_assoc 2 t p, mul_assoc 2 q T)) (omega (arith, mul_assoc 2 t p, mul_assoc 2 q T))

-- from the first remainder the sum of t counts is the rounded total, for odd and even q alike
pub start : (t p q : ℕ) → 0 < q → (first_remainder q + t * p) / q ≡ rounded_total t p q
start t p q pos =
    sym
    (nearest_is t p q _
    (half_rounds t p q ((first_remainder q + t * p) / q) ((first_remainder q + t * p) % q) (mod-lt (first_remainder q + t * p) pos)
    (div-add-mod (first_remainder q + t * p) q)))

-- a greater number is at least q further on, q times
further : (q T U : ℕ) → T < U → q * T + q ≤ q * U
further q T U h =
    let g : q * (T + 1) ≤ q * U = mul-le-mul_left q (omega arith) in
    omega (arith, mul-add q T 1)

module _ (t p q T U : ℕ) (n : Nearest t p q T) where
  pub only : Nearest t p q U → U ≡ T
  only m = sym (nearest_is t p q U m) ∙ nearest_is t p q T n

  pub no_nearer : apart (q * T) (t * p) ≤ apart (q * U) (t * p)
  no_nearer = by (ltb T U) (ltb U T) refl refl
    where
      by : (a b : Bool) → ltb T U ≡ a → ltb U T ≡ b → apart (q * T) (t * p) ≤ apart (q * U) (t * p)
      by true b e f = omega (arith, further q T U (ltb-true T U e), mul_assoc 2 t p, mul_assoc 2 q T)
      by false true e f = omega (arith, further q U T (ltb-true U T f), mul_assoc 2 t p, mul_assoc 2 q T)
      by false false e f =
          let s : T ≡ U = omega (arith, ltb-false T U e, ltb-false U T f) in
          rw s (omega arith)

  pub halves_up : apart (q * U) (t * p) ≡ apart (q * T) (t * p) → U ≤ T
  halves_up same = by (ltb T U) refl
    where
      by : (a : Bool) → ltb T U ≡ a → U ≤ T
      by true e = omega (arith, further q T U (ltb-true T U e), mul_assoc 2 t p, mul_assoc 2 q T)
      by false e = ltb-false T U e
