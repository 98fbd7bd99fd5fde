-- Places told in parts of a byte: w * k / D in whole parts, of which a byte has 2^40, rounded up or
-- down. As long as w * D is below 2^40 they lead to the same byte. Assumes nothing.
use mathlib.Core.Path.{◌≡◌}
use Prim.Native.Nat.{ℕ, ◌+◌, ◌*◌, ◌/◌, ◌≤◌, ◌<◌}
use native.Mathlib.Nat.{add-mul, div-mul-le_self, lt-div-mul-add, lt_of_mul-lt-mul_right, mul-add, mul_assoc, mul-le-mul_left, mul-le-mul_right, mul-lt-mul_of_pos_right, mul_right_comm}
use native.Mathlib.Omega.{arith}
use Rattle.gmp_row.proofs.Rows.{U}

module _ (k D w z : ℕ) (pos : 0 < D) where
  abbrev u : ℕ
  u = k * U / D

  -- w * u * D is at most w * k * U, and at most w * D below it
  under : w * u * D ≤ w * k * U
  under = rw (mul_assoc w u D, mul_assoc w k U) (mul-le-mul_left w (div-mul-le_self (k * U) D))

  over : w * k * U ≤ w * u * D + w * D
  over =
      let l : k * U ≤ u * D + D = omega (arith, lt-div-mul-add {a = k * U} pos) in
      omega (arith, mul-le-mul_left w l, mul-add w (u * D) D, mul_assoc w k U, mul_assoc w u D)

  sides : z * D * U ≡ z * U * D
  sides = mul_right_comm z D U

  -- rounded up: the parts lie in byte z or later, or before it
  pub up_least : w * D < U → z * U ≤ w * (u + 1) → z * D ≤ w * k
  up_least small h =
      let l : z * D * U < (w * k + 1) * U = omega (arith, sides, mul-le-mul_right D h, mul-add w u 1, add-mul (w * u) w D, under, small, add-mul (w * k) 1 U) in
      omega (arith, lt_of_mul-lt-mul_right U l)

  pub up_most : w * (u + 1) < z * U → w * k < z * D
  up_most h = lt_of_mul-lt-mul_right U (omega (arith, sides, mul-lt-mul_of_pos_right h pos, mul-add w u 1, add-mul (w * u) w D, over))

  -- rounded down, and less by one part: the same
  pub down_least : z * U < w * u → z * D < w * k
  down_least h = lt_of_mul-lt-mul_right U (omega (arith, sides, mul-lt-mul_of_pos_right h pos, under))

  pub down_most : w * D < U → w * u ≤ z * U → w * k ≤ z * D
  down_most small h =
      let l : w * k * U < (z * D + 1) * U = omega (arith, sides, mul-le-mul_right D h, over, small, add-mul (z * D) 1 U) in
      omega (arith, lt_of_mul-lt-mul_right U l)
