-- Laws of bits as numbers. Assumes nothing.
use mathlib.Core.Path.{◌≡◌, refl}
use mathlib.Core.Bool.{Bool, true, false, xor}
use Prim.Native.Nat.{◌<◌}
use lib.Bits.{bit_xor}
use lib.Dec.{lit<}
use Rattle.math.specs.Bits.{digit}

pub digit_lt : (b : Bool) → digit b < 2
digit_lt true = lit< tt
digit_lt false = lit< tt

-- bits that differ are those whose exclusive-or is 1
pub digit_xor : (b c : Bool) → digit (xor b c) ≡ bit_xor (digit b) (digit c)
unfolding xor
digit_xor true true = refl
digit_xor true false = refl
digit_xor false true = refl
digit_xor false false = refl
