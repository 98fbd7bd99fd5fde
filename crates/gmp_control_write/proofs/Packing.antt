-- Shifts, masks and or on the fields of a word, as the sum of the definitions. Assumes nothing.
use mathlib.Core.Path.{◌≡◌, ap, ap₂, ◌∙◌}
use Prim.Native.Nat.{ℕ, ◌+◌, ◌*◌, ◌%◌, ◌<◌}
use native.Mathlib.Omega.{arith}
use lib.Bits.{bit_and, bit_or, and_mask, or_shifted}
use Rattle.gmp_control.specs.Word.{word_of}

-- a word of its count, II and DI
pub packed_sum : (n i d : ℕ) → i < 2 → d < 2 → bit_or (bit_or (bit_and n 16383 * 4 % 4294967296) (i * 2 % 4294967296)) d ≡ word_of n i d
packed_sum n i d hi hd =
    let e : bit_and n 16383 * 4 % 4294967296 ≡ n % 16384 * 4 = omega (arith, and_mask n 14) in
    let f : i * 2 % 4294967296 ≡ i * 2 = omega arith in
    let g : n % 16384 * 4 + i * 2 ≡ (n % 16384 * 2 + i) * 2 = omega arith in
    let h : (n % 16384 * 2 + i) * 2 + d ≡ n % 16384 * 4 + i * 2 + d = omega arith in
    ap₂ (λ (x y : ℕ). bit_or (bit_or x y) d) e f
    ∙ ap (λ (x : ℕ). bit_or x d) (or_shifted (n % 16384) 2 (i * 2) (omega arith) ∙ g)
    ∙ or_shifted (n % 16384 * 2 + i) 1 d hd ∙ h
