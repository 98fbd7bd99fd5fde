-- Rows and parts of a byte. Assumes nothing.
use Prim.Native.Nat.{ℕ, ◌*◌, ◌≤◌, ◌<◌}
use native.Mathlib.Nat.{mul-le-mul_right}
use native.Mathlib.Omega.{arith}

-- as many parts has a byte
abbrev pub U : ℕ
U = 1099511627776

-- a row's number is at most 3
pub row_le : (r n : ℕ) → r < 4 → r * n ≤ 3 * n
row_le r n h = let l : r ≤ 3 = omega arith in mul-le-mul_right n l
