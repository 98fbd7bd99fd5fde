-- What the crates above cite of the check; none of it speaks of the division. Assumes nothing.
use mathlib.Core.Path.{◌≡◌, refl, sym, ap, ◌∙◌, subst⁻¹}
use mathlib.Core.Bool.{Bool, true, false, xor}
use mathlib.Core.List.{List, [], ◌∷◌, ◌++◌}
use Prim.Native.Nat.{ℕ, ◌+◌, ◌≤◌, ◌<◌}
use native.Mathlib.Omega.{arith}
use lib.Bits.{bit_xor}
use lib.Dec.{T, lit<, lit≤}
use borrow.Author.Tests.{eq-eqb}
use Rattle.math.specs.Bits.{digit, bits, differing}
use Rattle.gmp_crc8.specs.declared.WordBytes.{WordBytes}
use Rattle.gmp_crc8.specs.declared.CheckedWord.{CheckedWord}
use Rattle.gmp_crc8.specs.declared.CheckedWord.TheVariants.{Whole, Mended, Bad}
use Rattle.gmp_crc8.specs.Check.{remainder, passes, syndrome, word, wrong_bits}
use Rattle.gmp_crc8.specs.Checked.{read_word, bit_in, flipped, mended, checked_word}
use Rattle.gmp_crc8.specs.Claims.{budget, Bytes, IsOrBad, ReadsAsItself, MendsOneBit, BitsToldApart}
use Rattle.gmp_crc8.proofs.Linear.{divide_lt}
use Rattle.gmp_crc8.proofs.Distance.{Same, most, passed_none, distance}
use Rattle.gmp_crc8.proofs.Mending.{flipped_word, mended_found, mended_not_bad, mended_not_whole, none_wrong, one_wrong_found, distinct, not_zero}

-- the written word passes
pub written_passes : (jc1 jc2 : ℕ) → passes jc1 jc2 (remainder jc1 jc2) ≡ true
unfolding passes
written_passes jc1 jc2 = eq-eqb (remainder jc1 jc2) (remainder jc1 jc2) refl

-- a word that passes is whole, whatever the setting is
pub passed_whole : (mending : Bool) (x y z : ℕ) → passes x y z ≡ true → checked_word mending x y z ≡ Whole (read_word x y)
unfolding checked_word
passed_whole mending x y z e = rw e

-- a remainder is a byte
pub remainder_lt : (jc1 jc2 : ℕ) → remainder jc1 jc2 < 256
unfolding remainder
remainder_lt jc1 jc2 = divide_lt (bits jc1 ++ (bits jc2 ++ bits 0)) 0 (lit< tt)

-- one that does not pass is bad, or with mending on what its remainder says
pub failed_off : (x y z : ℕ) → passes x y z ≡ false → checked_word false x y z ≡ Bad
unfolding checked_word
failed_off x y z e = rw e

pub failed_on : (x y z : ℕ) → passes x y z ≡ false → checked_word true x y z ≡ mended x y (syndrome x y z)
unfolding checked_word
failed_on x y z e = rw e

-- so with mending off a word goes by the check alone
pub off_by_check : (P : CheckedWord → Type 0) (x y z : ℕ) → (passes x y z ≡ true → P (Whole (read_word x y))) → (passes x y z ≡ false → P Bad) → P (checked_word false x y z)
off_by_check P x y z whole bad = by (passes x y z) refl
  where
    by : (t : Bool) → passes x y z ≡ t → P (checked_word false x y z)
    by true e = subst⁻¹ P (passed_whole false x y z e) (whole e)
    by false e = subst⁻¹ P (failed_off x y z e) (bad e)

-- the differences of two words are at most those on the way over a third
xor_triangle : (x y z : Bool) → digit (xor x z) ≤ digit (xor x y) + digit (xor y z)
unfolding xor
xor_triangle true true true = lit≤ tt
xor_triangle true true false = lit≤ tt
xor_triangle true false true = lit≤ tt
xor_triangle true false false = lit≤ tt
xor_triangle false true true = lit≤ tt
xor_triangle false true false = lit≤ tt
xor_triangle false false true = lit≤ tt
xor_triangle false false false = lit≤ tt

triangle : (xs ys zs : List Bool) → Same xs ys → Same ys zs → differing xs zs ≤ differing xs ys + differing ys zs
unfolding differing
triangle [] ys zs k l = omega arith
triangle (x ∷ xs) [] zs k l = absurd k
triangle (x ∷ xs) (y ∷ ys) [] k l = absurd l
triangle (x ∷ xs) (y ∷ ys) (z ∷ zs) k l = omega (arith, xor_triangle x y z, triangle xs ys zs k l)

over : (a b c x y z p q r : ℕ) → wrong_bits a b c p q r ≤ wrong_bits a b c x y z + wrong_bits x y z p q r
unfolding bits word wrong_bits
over a b c x y z p q r = triangle (word a b c) (word x y z) (word p q r) tt tt

differing_self : (xs : List Bool) → differing xs xs ≡ 0
unfolding differing xor
differing_self [] = refl
differing_self (true ∷ xs) = let later = differing_self xs in omega arith
differing_self (false ∷ xs) = let later = differing_self xs in omega arith

differing_comm : (xs ys : List Bool) → differing xs ys ≡ differing ys xs
unfolding differing xor
differing_comm [] [] = refl
differing_comm [] (y ∷ ys) = refl
differing_comm (x ∷ xs) [] = refl
differing_comm (true ∷ xs) (true ∷ ys) = let later = differing_comm xs ys in omega arith
differing_comm (true ∷ xs) (false ∷ ys) = let later = differing_comm xs ys in omega arith
differing_comm (false ∷ xs) (true ∷ ys) = let later = differing_comm xs ys in omega arith
differing_comm (false ∷ xs) (false ∷ ys) = let later = differing_comm xs ys in omega arith

same_words : (a b x y : ℕ) → x ≡ a → y ≡ b → read_word x y ≡ read_word a b
same_words a b x y e f = ap (λ (k : ℕ). read_word k y) e ∙ ap (read_word a) f

-- A word (a, b, c) that passes, read as (x, y, z).
module _ (a b c x y z : ℕ) (u : Bytes a b c) (v : Bytes x y z) (p : passes a b c ≡ true) where
  -- the same bytes differ in no bit
  same_bits : (x ≡ a) × (y ≡ b) × (z ≡ c) → wrong_bits a b c x y z ≡ 0
  unfolding wrong_bits
  same_bits s =
      ap (λ (k : ℕ). wrong_bits a b c k y z) s.0 ∙ ap (λ (k : ℕ). wrong_bits a b c a k z) s.1
      ∙ ap (λ (k : ℕ). wrong_bits a b c a b k) s.2 ∙ differing_self (word a b c)

  -- where that passes too, with at most three wrong bits, it is the word, and no bit is wrong
  whole_same : wrong_bits a b c x y z ≤ most → passes x y z ≡ true → (read_word x y ≡ read_word a b) × (wrong_bits a b c x y z ≡ 0)
  whole_same h e =
      let s = distance a b c x y z u v (subst⁻¹ T p tt) (subst⁻¹ T e tt) h in
      (same_words a b x y s.0 s.1, same_bits s)

  -- where it is mended, with at most two wrong bits, it is the word, and one bit is wrong
  mended_same : (w : WordBytes) → wrong_bits a b c x y z ≤ 2 → mended x y (syndrome x y z) ≡ Mended w → (w ≡ read_word a b) × (wrong_bits a b c x y z ≡ 1)
  unfolding wrong_bits flipped
  mended_same w h e =
      let f = mended_found x y (syndrome x y z) w e in
      let i : ℕ = bit_xor x (bit_in 0 f.0) in
      let j : ℕ = bit_xor y (bit_in 1 f.0) in
      let k : ℕ = bit_xor z (bit_in 2 f.0) in
      let g = flipped_word x y z f.0 v f.1 f.2 in
      let s = distance a b c i j k u g.bytes (subst⁻¹ T p tt) (subst⁻¹ T g.good tt) (omega (arith, over a b c x y z i j k, g.one)) in
      let back =
      ap (λ (n : ℕ). wrong_bits x y z n b c) (sym s.0) ∙ ap (λ (n : ℕ). wrong_bits x y z i n c) (sym s.1) ∙ ap (wrong_bits x y z i j) (sym s.2) ∙ g.one in
      (f.3 ∙ same_words a b i j s.0 s.1, differing_comm (word a b c) (word x y z) ∙ back)

  mended_or_bad : (r : CheckedWord) → mended x y (syndrome x y z) ≡ r → wrong_bits a b c x y z ≤ 2 → IsOrBad a b r
  mended_or_bad (Whole w) e h = absurd (mended_not_whole x y (syndrome x y z) w e)
  mended_or_bad (Mended w) e h = (mended_same w h e).0
  mended_or_bad Bad e h = tt

  itself_by : (mending t : Bool) → passes x y z ≡ t → wrong_bits a b c x y z ≤ budget mending → IsOrBad a b (checked_word mending x y z)
  itself_by true true e h = subst⁻¹ (IsOrBad a b) (passed_whole true x y z e) (whole_same (omega arith) e).0
  itself_by false true e h = subst⁻¹ (IsOrBad a b) (passed_whole false x y z e) (whole_same (omega arith) e).0
  itself_by true false e h = subst⁻¹ (IsOrBad a b) (failed_on x y z e) (mended_or_bad (mended x y (syndrome x y z)) refl (omega arith))
  itself_by false false e h = subst⁻¹ (IsOrBad a b) (failed_off x y z e) tt

  none_by : (mending : Bool) → wrong_bits a b c x y z ≡ 0 → checked_word mending x y z ≡ Whole (read_word a b)
  none_by mending h =
      let e = none_wrong a b c x y z u v (passed_none a b c (subst⁻¹ T p tt)) h in
      passed_whole mending x y z e ∙ ap Whole (whole_same (omega arith) e).0

  -- one wrong bit: the remainder is that of a bit, so it is mended
  mends_by : (r : CheckedWord) → mended x y (syndrome x y z) ≡ r → wrong_bits a b c x y z ≡ 1 → r ≡ Mended (read_word a b)
  mends_by (Whole w) e h = absurd (mended_not_whole x y (syndrome x y z) w e)
  mends_by (Mended w) e h = ap Mended (mended_same w (omega arith) e).0
  mends_by Bad e h =
      let j = one_wrong_found a b c x y z u v (passed_none a b c (subst⁻¹ T p tt)) h in
      absurd (mended_not_bad x y (syndrome x y z) j.0 j.1 j.2 e)

  one_by : (t : Bool) → passes x y z ≡ t → wrong_bits a b c x y z ≡ 1 → checked_word true x y z ≡ Mended (read_word a b)
  one_by true e h = absurd (omega (arith, (whole_same (omega arith) e).1))
  one_by false e h = failed_on x y z e ∙ mends_by (mended x y (syndrome x y z)) refl h

  -- two wrong bits: it is not one
  bad_by : (r : CheckedWord) → mended x y (syndrome x y z) ≡ r → wrong_bits a b c x y z ≡ 2 → r ≡ Bad
  bad_by (Whole w) e h = absurd (mended_not_whole x y (syndrome x y z) w e)
  bad_by (Mended w) e h = absurd (omega (arith, (mended_same w (omega arith) e).1))
  bad_by Bad e h = refl

  two_by : (t : Bool) → passes x y z ≡ t → wrong_bits a b c x y z ≡ 2 → checked_word true x y z ≡ Bad
  two_by true e h = absurd (omega (arith, (whole_same (omega arith) e).1))
  two_by false e h = failed_on x y z e ∙ bad_by (mended x y (syndrome x y z)) refl h

-- a word read with at most the budget's wrong bits reads as itself or is bad
pub reads_as_itself : ReadsAsItself
reads_as_itself mending a b c x y z u v p h = itself_by a b c x y z u v p mending (passes x y z) refl h

-- a word with no wrong bit is whole; with mending on one with one is mended, and with two is bad
pub mends_one_bit : MendsOneBit
mends_one_bit =
    record {
      none = λ mending a b c x y z u v p h. none_by a b c x y z u v p mending h;
      one = λ a b c x y z u v p h. one_by a b c x y z u v p (passes x y z) refl h;
      two = λ a b c x y z u v p h. two_by a b c x y z u v p (passes x y z) refl h;
    }

-- and the 24 bits are told apart by their remainders
pub bits_told_apart : BitsToldApart
bits_told_apart =
    record {
      distinct = λ i j hi hj e. distinct i j (omega arith) (omega arith) e;
      not_zero = λ i h e. not_zero i (omega arith) e;
    }
