-- The division is linear, so a byte can be brought down at once. Assumes nothing.
use mathlib.Core.Path.{◌≡◌, refl, sym, ap, ap₂, ◌∙◌}
use mathlib.Core.Bool.{Bool, true, false, ◌&&◌, xor}
use mathlib.Core.List.{List, [], ◌∷◌, ◌++◌}
use Prim.Native.Nat.{ℕ, ◌+◌, ◌*◌, ◌/◌, ◌<◌}
use native.Mathlib.Omega.{arith}
use lib.Bits.{bit_xor, xor_shr, xor_lt, xor_block, xor_zero_r}
use lib.Dec.{T, ltb, eqb, eqb→eq, ltb→lt, lit<}
use Rattle.math.proofs.Xor.{xor_medial}
use Rattle.math.specs.Linear.{Linear}
use Rattle.math.specs.Finite.{below}
use Rattle.math.proofs.Finite.{both_left, both_right, at_below, agree_below}
use Rattle.math.specs.Bits.{digit, bits}
use Rattle.math.proofs.Bits.{digit_lt, digit_xor}
use Rattle.gmp_crc8.specs.Division.{generator, reduce, divide}
use Rattle.gmp_crc8.specs.Check.{remainder}

-- What is left is of degree 7 at most, and the generator was taken off as often as x^8 stood there:
-- one test of the 512 cases.
reduced : ℕ → Bool
reduced t = ltb (reduce t) 256 && eqb (reduce t) (bit_xor t (generator * (t / 256)))

reduced_at : (t : ℕ) → t < 512 → T (reduced t)
unfolding reduced reduce
reduced_at = at_below reduced 512 tt

reduce_lt : (t : ℕ) → t < 512 → reduce t < 256
unfolding reduced
reduce_lt t h = ltb→lt _ _ (both_left (ltb (reduce t) 256) (eqb (reduce t) (bit_xor t (generator * (t / 256)))) (reduced_at t h))

reduce_form : (t : ℕ) → t < 512 → reduce t ≡ bit_xor t (generator * (t / 256))
unfolding reduced
reduce_form t h = eqb→eq _ _ (both_right (ltb (reduce t) 256) (eqb (reduce t) (bit_xor t (generator * (t / 256)))) (reduced_at t h))

-- the generator taken once, or not, for each of two digits
times : (d e : ℕ) → d < 2 → e < 2 → generator * bit_xor d e ≡ bit_xor (generator * d) (generator * e)
times d e hd he =
    eqb→eq _ _ (at_below (λ y. eqb (generator * bit_xor d y) (bit_xor (generator * d) (generator * y))) 2
    (at_below (λ x. below (λ y. eqb (generator * bit_xor x y) (bit_xor (generator * x) (generator * y))) 2) 2 tt d hd) e he)

reduce_xor : (s t : ℕ) → s < 512 → t < 512 → reduce (bit_xor s t) ≡ bit_xor (reduce s) (reduce t)
reduce_xor s t hs ht =
    reduce_form (bit_xor s t) (xor_lt 9 s t hs ht)
    ∙ ap (λ (x : ℕ). bit_xor (bit_xor s t) (generator * x)) (xor_shr s t 8)
    ∙ ap (bit_xor (bit_xor s t)) (times (s / 256) (t / 256) (omega arith) (omega arith))
    ∙ xor_medial s t (generator * (s / 256)) (generator * (t / 256))
    ∙ sym (ap₂ bit_xor (reduce_form s hs) (reduce_form t ht))

next_lt : (r : ℕ) (b : Bool) → r < 256 → r * 2 + digit b < 512
next_lt r b h = omega (arith, digit_lt b)

pub step_lt : (r : ℕ) (b : Bool) → r < 256 → reduce (r * 2 + digit b) < 256
step_lt r b h = reduce_lt (r * 2 + digit b) (next_lt r b h)

-- one step of two divisions is one step of their sum
pub step_xor : (r s : ℕ) (b c : Bool) → r < 256 → s < 256
    → reduce (bit_xor r s * 2 + digit (xor b c)) ≡ bit_xor (reduce (r * 2 + digit b)) (reduce (s * 2 + digit c))
step_xor r s b c hr hs =
    ap (λ (x : ℕ). reduce (bit_xor r s * 2 + x)) (digit_xor b c) ∙ ap reduce (sym (xor_block 1 r s (digit b) (digit c) (digit_lt b) (digit_lt c)))
    ∙ reduce_xor (r * 2 + digit b) (s * 2 + digit c) (next_lt r b hr) (next_lt s c hs)

-- as many digits 0
abbrev zeros : List Bool → List Bool
zeros [] = []
zeros (x ∷ xs) = false ∷ zeros xs

false_xor : (b : Bool) → xor false b ≡ b
unfolding xor
false_xor true = refl
false_xor false = refl

divide_xor : (xs : List Bool) (r s : ℕ) → r < 256 → s < 256 → divide (bit_xor r s) xs ≡ bit_xor (divide r (zeros xs)) (divide s xs)
unfolding divide
divide_xor [] r s hr hs = refl
divide_xor (x ∷ xs) r s hr hs =
    ap (λ (b : Bool). divide (reduce (bit_xor r s * 2 + digit b)) xs) (sym (false_xor x)) ∙ ap (λ (t : ℕ). divide t xs) (step_xor r s false x hr hs)
    ∙ divide_xor xs (reduce (r * 2 + 0)) (reduce (s * 2 + digit x)) (step_lt r false hr) (step_lt s x hs)

-- so the remainder of a byte times x^8 is linear
pub times_linear : Linear 256 (λ k. divide k (bits 0))
unfolding bits
times_linear = record { of_xor = divide_xor (bits 0) }

-- a remainder is of degree 7 at most
pub divide_lt : (xs : List Bool) (r : ℕ) → r < 256 → divide r xs < 256
unfolding divide
divide_lt [] r h = h
divide_lt (x ∷ xs) r h = divide_lt xs (reduce (r * 2 + digit x)) (step_lt r x h)

pub divide_append : (xs ys : List Bool) (r : ℕ) → divide r (xs ++ ys) ≡ divide (divide r xs) ys
unfolding divide
divide_append [] ys r = refl
divide_append (x ∷ xs) ys r = divide_append xs ys (reduce (r * 2 + digit x))

-- a byte is its own remainder: one test of the 256 cases
pub divide_bits : (x : ℕ) → x < 256 → divide 0 (bits x) ≡ x
unfolding divide bits reduce
divide_bits = agree_below (λ k. divide 0 (bits k)) (λ k. k) 256 tt

-- the step of a byte at a time
pub divide_byte : (r x : ℕ) → r < 256 → x < 256 → divide r (bits x) ≡ bit_xor (divide r (bits 0)) x
unfolding bits
divide_byte r x hr hx =
    ap (λ (t : ℕ). divide t (bits x)) (sym (xor_zero_r r)) ∙ divide_xor (bits x) r 0 hr (lit< tt)
    ∙ ap (bit_xor (divide r (bits 0))) (divide_bits x hx)

-- the remainder of two bytes times x^8, by two steps of a byte
pub remainder_bytes : (a b : ℕ) → a < 256 → b < 256 → remainder a b ≡ divide (bit_xor (divide a (bits 0)) b) (bits 0)
unfolding remainder
remainder_bytes a b ha hb =
    divide_append (bits a) (bits b ++ bits 0) 0 ∙ ap (λ (t : ℕ). divide t (bits b ++ bits 0)) (divide_bits a ha)
    ∙ divide_append (bits b) (bits 0) a ∙ ap (λ (t : ℕ). divide t (bits 0)) (divide_byte a b ha hb)
