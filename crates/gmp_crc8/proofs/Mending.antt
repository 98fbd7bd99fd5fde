-- Mending: what flipping one of the 24 bits does to the remainder and to the distance, and that the
-- remainder of one wrong bit is in the table. Assumes nothing.
use mathlib.Core.Path.{◌≡◌, refl, sym, ap, ap₂, ◌∙◌, subst}
use mathlib.Core.Bool.{Bool, true, false, not, cond, ◌||◌, xor}
use mathlib.Core.List.{List, [], ◌∷◌, ◌++◌}
use Prim.Native.Nat.{ℕ, zero, suc, ◌+◌, ◌*◌, ◌-◌, ◌/◌, ◌%◌, ◌^◌, ◌≤◌, ◌<◌}
use native.Mathlib.Omega.{arith}
use lib.Bits.{bit_xor, xor_self, xor_lt}
use lib.Dec.{T, eqb, ltb, eqb→eq, ltb→lt, lit<, lit≤}
use lib.ListN.{length}
use borrow.Author.Tests.{eq-eqb, eqb-true, eqb-false, lt-ltb, ltb-true}
use Rattle.math.proofs.Xor.{xor_medial, xor_zero_eq}
use Rattle.math.specs.Finite.{below}
use Rattle.math.proofs.Finite.{at_below, agree_below}
use Rattle.math.specs.Bits.{digit, bits, differing}
use Rattle.gmp_crc8.specs.declared.WordBytes.{WordBytes}
use Rattle.gmp_crc8.specs.declared.CheckedWord.TheVariants.{Whole, Mended, Bad}
use Rattle.gmp_crc8.specs.Division.{reduce, divide}
use Rattle.gmp_crc8.specs.Check.{remainder, passes, syndrome, word, wrong_bits}
use Rattle.gmp_crc8.specs.Checked.{bit_in, one_bit, flipped, first_with, wrong_bit, mended}
use Rattle.gmp_crc8.specs.Claims.{Bytes}
use Rattle.gmp_crc8.proofs.Linear.{step_xor, step_lt, divide_lt, times_linear, remainder_bytes}
use Rattle.gmp_crc8.proofs.Distance.{Same, divided}

-- the remainder of a sum is the sum of the remainders
remainder_xor : (a b x y : ℕ) → a < 256 → b < 256 → x < 256 → y < 256 → remainder (bit_xor a x) (bit_xor b y) ≡ bit_xor (remainder a b) (remainder x y)
remainder_xor a b x y ha hb hx hy =
    remainder_bytes (bit_xor a x) (bit_xor b y) (xor_lt 8 a x ha hx) (xor_lt 8 b y hb hy)
    ∙ ap (λ (t : ℕ). divide (bit_xor t (bit_xor b y)) (bits 0)) (times_linear.of_xor a x ha hx)
    ∙ ap (λ (t : ℕ). divide t (bits 0)) (xor_medial (divide a (bits 0)) (divide x (bits 0)) b y)
    ∙ times_linear.of_xor (bit_xor (divide a (bits 0)) b) (bit_xor (divide x (bits 0)) y)
    (xor_lt 8 (divide a (bits 0)) b (divide_lt (bits 0) a ha) hb) (xor_lt 8 (divide x (bits 0)) y (divide_lt (bits 0) x hx) hy)
    ∙ sym (ap₂ bit_xor (remainder_bytes a b ha hb) (remainder_bytes x y hx hy))

syndrome_xor : (a b c x y z : ℕ) → Bytes a b c → Bytes x y z → syndrome (bit_xor a x) (bit_xor b y) (bit_xor c z) ≡ bit_xor (syndrome a b c) (syndrome x y z)
unfolding syndrome
syndrome_xor a b c x y z u v =
    ap (bit_xor (bit_xor c z)) (remainder_xor a b x y u.0 u.1 v.0 v.1) ∙ xor_medial c z (remainder a b) (remainder x y)

-- a word with no remainder passes
pub none_passes : (a b c : ℕ) → syndrome a b c ≡ 0 → passes a b c ≡ true
unfolding syndrome passes
none_passes a b c e = eq-eqb c (remainder a b) (xor_zero_eq c (remainder a b) e)

-- one of the eight bits of a byte is a byte, and flipping it makes one difference: one test of each
-- bit in each byte
eighth_lt : (m : ℕ) → m < 8 → 128 / 2 ^ m < 256
eighth_lt m h = ltb→lt _ _ (at_below (λ i. ltb (128 / 2 ^ i) 256) 8 tt m h)

one_flip : (m x : ℕ) → m < 8 → x < 256 → differing (bits x) (bits (bit_xor x (128 / 2 ^ m))) ≡ 1
unfolding bits differing xor
one_flip m x hm hx =
    eqb→eq _ _ (at_below (λ k. eqb (differing (bits k) (bits (bit_xor k (128 / 2 ^ m)))) 1) 256
    (at_below (λ i. below (λ k. eqb (differing (bits k) (bits (bit_xor k (128 / 2 ^ i)))) 1) 256) 8 tt m hm) x hx)

no_flip : (x : ℕ) → x < 256 → differing (bits x) (bits (bit_xor x 0)) ≡ 0
unfolding bits differing xor
no_flip x hx = eqb→eq _ _ (at_below (λ k. eqb (differing (bits k) (bits (bit_xor k 0))) 0) 256 tt x hx)

-- the differences of two lists add up
differing_append : (xs ys us vs : List Bool) → Same xs ys → differing (xs ++ us) (ys ++ vs) ≡ differing xs ys + differing us vs
unfolding differing
differing_append [] [] us vs s = omega arith
differing_append [] (y ∷ ys) us vs s = absurd s
differing_append (x ∷ xs) [] us vs s = absurd s
differing_append (x ∷ xs) (y ∷ ys) us vs s = let later = differing_append xs ys us vs s in omega arith

wrong_by_bytes : (a b c x y z : ℕ) → wrong_bits a b c x y z ≡ differing (bits a) (bits x) + (differing (bits b) (bits y) + differing (bits c) (bits z))
unfolding bits word wrong_bits
wrong_by_bytes a b c x y z =
    differing_append (bits a) (bits x) (bits b ++ bits c) (bits y ++ bits z) tt
    ∙ ap (λ (n : ℕ). differing (bits a) (bits x) + n) (differing_append (bits b) (bits y) (bits c) (bits z) tt)

-- the same three bytes with one of the 24 bits flipped: bit m of byte q
abbrev alone : ℕ → ℕ → ℕ → ℕ
alone q m byte = cond (eqb q byte) (128 / 2 ^ m) 0

-- they are bytes, and differ in that one
pub record Flips (x y z q m : ℕ) : Type 0 where
  pub bytes : Bytes (alone q m 0) (alone q m 1) (alone q m 2)
  pub one : wrong_bits x y z (bit_xor x (alone q m 0)) (bit_xor y (alone q m 1)) (bit_xor z (alone q m 2)) ≡ 1

flips : (x y z : ℕ) → Bytes x y z → (q m : ℕ) → q < 3 → m < 8 → Flips x y z q m
flips x y z u zero m hq hm =
    record {
      bytes = (eighth_lt m hm, lit< tt, lit< tt);
      one = wrong_by_bytes x y z _ _ _ ∙ omega (arith, one_flip m x hm u.0, no_flip y u.1, no_flip z u.2);
    }
flips x y z u (suc zero) m hq hm =
    record {
      bytes = (lit< tt, eighth_lt m hm, lit< tt);
      one = wrong_by_bytes x y z _ _ _ ∙ omega (arith, no_flip x u.0, one_flip m y hm u.1, no_flip z u.2);
    }
flips x y z u (suc (suc zero)) m hq hm =
    record {
      bytes = (lit< tt, lit< tt, eighth_lt m hm);
      one = wrong_by_bytes x y z _ _ _ ∙ omega (arith, no_flip x u.0, no_flip y u.1, one_flip m z hm u.2);
    }
flips x y z u (suc (suc (suc q))) m hq hm = absurd (omega arith)

-- A word whose remainder is that of one wrong bit, with that bit flipped: it passes, and is one bit
-- off the word that was read.
pub record FlippedWord (x y z bit : ℕ) : Type 0 where
  pub bytes : Bytes (bit_xor x (bit_in 0 bit)) (bit_xor y (bit_in 1 bit)) (bit_xor z (bit_in 2 bit))
  pub good : passes (bit_xor x (bit_in 0 bit)) (bit_xor y (bit_in 1 bit)) (bit_xor z (bit_in 2 bit)) ≡ true
  pub one : wrong_bits x y z (bit_xor x (bit_in 0 bit)) (bit_xor y (bit_in 1 bit)) (bit_xor z (bit_in 2 bit)) ≡ 1

pub flipped_word : (x y z bit : ℕ) → Bytes x y z → bit < 24 → one_bit bit ≡ syndrome x y z → FlippedWord x y z bit
unfolding one_bit bit_in
flipped_word x y z bit u h e =
    let f = flips x y z u (bit / 8) (bit % 8) (omega arith) (omega arith) in
    let v = f.bytes in
    record {
      bytes = (xor_lt 8 x (bit_in 0 bit) u.0 v.0, xor_lt 8 y (bit_in 1 bit) u.1 v.1, xor_lt 8 z (bit_in 2 bit) u.2 v.2);
      good = none_passes (bit_xor x (bit_in 0 bit)) (bit_xor y (bit_in 1 bit)) (bit_xor z (bit_in 2 bit))
          (syndrome_xor x y z (bit_in 0 bit) (bit_in 1 bit) (bit_in 2 bit) u v ∙ ap (bit_xor (syndrome x y z)) e ∙ xor_self (syndrome x y z));
      one = f.one;
    }

-- The search for the wrong bit of a remainder, from the last bit to the first: what was found so
-- far is the answer for the bits from there on.
pub record Searched (r bit found : ℕ) : Type 0 where
  pub few : bit ≤ 24
  pub so_far : found ≡ first_with r (24 - bit) bit

pub search_start : (r : ℕ) → Searched r 24 24
unfolding first_with
search_start r = record { few = lit≤ tt; so_far = refl }

pub search_next : (r bit found next : ℕ) → 0 < bit → Searched r bit found → next ≡ cond (eqb (one_bit (bit - 1)) r) (bit - 1) found → Searched r (bit - 1) next
unfolding first_with
search_next r bit found next h so e =
    let few = so.few in
    let n : 24 - (bit - 1) ≡ suc (24 - bit) = omega arith in
    let b : bit ≡ suc (bit - 1) = omega arith in
    record {
      few = omega arith;
      so_far = e ∙ ap (λ (k : ℕ). cond (eqb (one_bit (bit - 1)) r) (bit - 1) k) (so.so_far ∙ ap (first_with r (24 - bit)) b)
          ∙ ap (λ (k : ℕ). first_with r k (bit - 1)) (sym n);
    }

pub search_end : (r bit found : ℕ) → bit ≤ 0 → Searched r bit found → found ≡ wrong_bit r
unfolding wrong_bit
search_end r bit found h so = let b : bit ≡ 0 = omega arith in so.so_far ∙ ap (λ (k : ℕ). first_with r (24 - k) k) b

-- what is found is a bit of this remainder,
found_by_lem : (r n bit : ℕ) (t : Bool) → eqb (one_bit bit) r ≡ t → (first_with r n (suc bit) < suc bit + n → one_bit (first_with r n (suc bit)) ≡ r)
    → cond t bit (first_with r n (suc bit)) < bit + suc n → one_bit (cond t bit (first_with r n (suc bit))) ≡ r
found_by_lem r n bit true t later h = eqb-true (one_bit bit) r t
found_by_lem r n bit false t later h = later (omega arith)

found_has : (r n bit : ℕ) → first_with r n bit < bit + n → one_bit (first_with r n bit) ≡ r
unfolding first_with
found_has r zero bit h = absurd (omega arith)
found_has r (suc n) bit h = found_by_lem r n bit (eqb (one_bit bit) r) refl (found_has r n (suc bit)) h

-- and where there is one it is found
is_found_by : (r n bit j : ℕ) (t : Bool) → eqb (one_bit bit) r ≡ t → bit ≤ j → j < bit + suc n → one_bit j ≡ r
    → (suc bit ≤ j → j < suc bit + n → first_with r n (suc bit) < suc bit + n) → cond t bit (first_with r n (suc bit)) < bit + suc n
is_found_by r n bit j true t low high f later = omega arith
is_found_by r n bit j false t low high f later = let h = later (not_here (eqb bit j) refl) (omega arith) in omega arith
  where
    not_here : (b : Bool) → eqb bit j ≡ b → suc bit ≤ j
    not_here true same = absurd (eqb-false (one_bit bit) r t (ap one_bit (eqb-true bit j same) ∙ f))
    not_here false other = omega (arith, eqb-false bit j other)

is_found : (r n bit j : ℕ) → bit ≤ j → j < bit + n → one_bit j ≡ r → first_with r n bit < bit + n
unfolding first_with
is_found r zero bit j low high f = absurd (omega arith)
is_found r (suc n) bit j low high f = is_found_by r n bit j (eqb (one_bit bit) r) refl low high f (λ l h. is_found r n (suc bit) j l h f)

wrong_bit_has : (r : ℕ) → wrong_bit r < 24 → one_bit (wrong_bit r) ≡ r
unfolding wrong_bit
wrong_bit_has r h = found_has r 24 0 (omega arith)

wrong_bit_found : (r j : ℕ) → j < 24 → one_bit j ≡ r → wrong_bit r < 24
unfolding wrong_bit
wrong_bit_found r j h f = let l = is_found r 24 0 j (omega arith) (omega arith) f in omega arith

-- So what is mended was found in the table,
pub mended_found : (x y r : ℕ) (w : WordBytes) → mended x y r ≡ Mended w → (j : ℕ) × (j < 24) × (one_bit j ≡ r) × (w ≡ flipped x y j)
unfolding mended
mended_found x y r w e = by (ltb (wrong_bit r) 24) refl e
  where
    by : (t : Bool) → ltb (wrong_bit r) 24 ≡ t → cond t (Mended (flipped x y (wrong_bit r))) Bad ≡ Mended w → (j : ℕ) × (j < 24) × (one_bit j ≡ r) × (w ≡ flipped x y j)
    by true t e' = let l = ltb-true (wrong_bit r) 24 t in (wrong_bit r, l, wrong_bit_has r l, cc)
    by false t e' = let z : ◌≡◌ {A = ℕ} 0 1 = cc in absurd (omega arith)

-- a remainder of the table is not bad,
pub mended_not_bad : (x y r j : ℕ) → j < 24 → one_bit j ≡ r → mended x y r ≡ Bad → ⊥
unfolding mended
mended_not_bad x y r j h f e =
    let here : mended x y r ≡ Mended (flipped x y (wrong_bit r)) = rw (lt-ltb (wrong_bit r) 24 (wrong_bit_found r j h f)) in
    let z : ◌≡◌ {A = ℕ} 0 1 = cc in
    omega arith

-- and nothing is mended to whole.
pub mended_not_whole : (x y r : ℕ) (w : WordBytes) → mended x y r ≡ Whole w → ⊥
unfolding mended
mended_not_whole x y r w e = by (ltb (wrong_bit r) 24) e
  where
    by : (t : Bool) → cond t (Mended (flipped x y (wrong_bit r))) Bad ≡ Whole w → ⊥
    by true e' = let z : ◌≡◌ {A = ℕ} 0 1 = cc in omega arith
    by false e' = let z : ◌≡◌ {A = ℕ} 0 1 = cc in omega arith

-- as many digits in which two divisions agree, from this difference on
steps : ℕ → ℕ → ℕ
steps zero d = d
steps (suc n) d = steps n (reduce (d * 2 + 0))

agree_after : (xs ys : List Bool) (r s : ℕ) → Same xs ys → differing xs ys ≡ 0 → r < 256 → s < 256 → bit_xor (divide r xs) (divide s ys) ≡ steps (length xs) (bit_xor r s)
unfolding divide differing steps xor
agree_after [] [] r s l h hr hs = refl
agree_after [] (y ∷ ys) r s l h hr hs = absurd l
agree_after (x ∷ xs) [] r s l h hr hs = absurd l
agree_after (true ∷ xs) (true ∷ ys) r s l h hr hs =
    agree_after xs ys (reduce (r * 2 + 1)) (reduce (s * 2 + 1)) l (omega arith) (step_lt r true hr) (step_lt s true hs) ∙ ap (steps (length xs)) (sym (step_xor r s true true hr hs))
agree_after (false ∷ xs) (false ∷ ys) r s l h hr hs =
    agree_after xs ys (reduce (r * 2 + 0)) (reduce (s * 2 + 0)) l (omega arith) (step_lt r false hr) (step_lt s false hs) ∙ ap (steps (length xs)) (sym (step_xor r s false false hr hs))
agree_after (true ∷ xs) (false ∷ ys) r s l h hr hs = absurd (omega arith)
agree_after (false ∷ xs) (true ∷ ys) r s l h hr hs = absurd (omega arith)

-- two lists that differ at one place, n digits before the end
abbrev Lone : List Bool → List Bool → ℕ → Type 0
Lone xs ys r = (n : ℕ) × (n < length xs) × (bit_xor (divide r xs) (divide r ys) ≡ steps n 1)

-- the difference there
lone_here : (r : ℕ) (x y : Bool) → xor x y ≡ true → r < 256 → bit_xor (reduce (r * 2 + digit x)) (reduce (r * 2 + digit y)) ≡ 1
unfolding reduce
lone_here r x y e h = sym (step_xor r r x y h h) ∙ ap₂ (λ (a : ℕ) (b : Bool). reduce (a * 2 + digit b)) (xor_self r) e

lone : (xs ys : List Bool) (r : ℕ) → Same xs ys → r < 256 → differing xs ys ≡ 1 → Lone xs ys r
unfolding divide differing xor
lone [] [] r l h e = absurd (omega arith)
lone [] (y ∷ ys) r l h e = absurd l
lone (x ∷ xs) [] r l h e = absurd l
lone (true ∷ xs) (true ∷ ys) r l h e = let f = lone xs ys (reduce (r * 2 + 1)) l (step_lt r true h) (omega arith) in (f.0, omega (arith, f.1), f.2)
lone (false ∷ xs) (false ∷ ys) r l h e = let f = lone xs ys (reduce (r * 2 + 0)) l (step_lt r false h) (omega arith) in (f.0, omega (arith, f.1), f.2)
lone (true ∷ xs) (false ∷ ys) r l h e = (
  length xs,
  omega arith,
  agree_after xs ys (reduce (r * 2 + 1)) (reduce (r * 2 + 0)) l (omega arith) (step_lt r true h) (step_lt r false h)
      ∙ ap (steps (length xs)) (lone_here r true false refl h),
)
lone (false ∷ xs) (true ∷ ys) r l h e = (
  length xs,
  omega arith,
  agree_after xs ys (reduce (r * 2 + 0)) (reduce (r * 2 + 1)) l (omega arith) (step_lt r false h) (step_lt r true h)
      ∙ ap (steps (length xs)) (lone_here r false true refl h),
)

-- the remainder of one wrong bit, n digits before the end: one test of the 24 bits
from_end : (n : ℕ) → n < 24 → one_bit (23 - n) ≡ steps n 1
unfolding one_bit syndrome remainder divide bits reduce steps bit_in
from_end = agree_below (λ n. one_bit (23 - n)) (λ n. steps n 1) 24 tt

-- A word that passes, read with one wrong bit, has the remainder of that bit.
pub one_wrong_found : (a b c x y z : ℕ) → Bytes a b c → Bytes x y z → syndrome a b c ≡ 0 → wrong_bits a b c x y z ≡ 1 → (j : ℕ) × (j < 24) × (one_bit j ≡ syndrome x y z)
unfolding bits word wrong_bits
one_wrong_found a b c x y z u v p h =
    let f = lone (word a b c) (word x y z) 0 tt (lit< tt) h in
    let n : ℕ = f.0 in
    (23 - n, omega arith, from_end n f.1 ∙ sym f.2 ∙ ap₂ bit_xor (divided a b c u.2 ∙ p) (divided x y z v.2))

-- With none wrong it has none.
alike : (xs ys : List Bool) → Same xs ys → differing xs ys ≡ 0 → xs ≡ ys
unfolding differing xor
alike [] [] l e = refl
alike [] (y ∷ ys) l e = absurd l
alike (x ∷ xs) [] l e = absurd l
alike (true ∷ xs) (true ∷ ys) l e = ap (λ (zs : List Bool). true ∷ zs) (alike xs ys l (omega arith))
alike (false ∷ xs) (false ∷ ys) l e = ap (λ (zs : List Bool). false ∷ zs) (alike xs ys l (omega arith))
alike (true ∷ xs) (false ∷ ys) l e = absurd (omega arith)
alike (false ∷ xs) (true ∷ ys) l e = absurd (omega arith)

pub none_wrong : (a b c x y z : ℕ) → Bytes a b c → Bytes x y z → syndrome a b c ≡ 0 → wrong_bits a b c x y z ≡ 0 → passes x y z ≡ true
unfolding bits word wrong_bits
none_wrong a b c x y z u v p h =
    none_passes x y z (sym (divided x y z v.2) ∙ ap (divide 0) (sym (alike (word a b c) (word x y z) tt h)) ∙ divided a b c u.2 ∙ p)

-- the remainders of two bits are not the same: one test of all pairs
apart : ℕ → ℕ → Bool
apart i j = eqb i j || not (eqb (one_bit i) (one_bit j))

apart_at : (i j : ℕ) → i < 24 → j < 24 → T (apart i j)
unfolding apart one_bit syndrome remainder divide bits reduce bit_in
apart_at i j hi hj = at_below (λ y. apart i y) 24 (at_below (λ x. below (λ y. apart x y) 24) 24 tt i hi) j hj

pub distinct : (i j : ℕ) → i < 24 → j < 24 → one_bit i ≡ one_bit j → i ≡ j
unfolding apart
distinct i j hi hj e = by (eqb i j) refl (apart_at i j hi hj)
  where
    by : (t : Bool) → eqb i j ≡ t → T (t || not (eqb (one_bit i) (one_bit j))) → i ≡ j
    by true same t = eqb-true i j same
    by false other t = absurd (subst (λ (b : Bool). T (not b)) (eq-eqb (one_bit i) (one_bit j) e) t)

-- and none is zero: one test of the 24
pub not_zero : (i : ℕ) → i < 24 → one_bit i ≡ 0 → ⊥
unfolding one_bit syndrome remainder divide bits reduce bit_in
not_zero i h e =
    let t = at_below (λ k. not (eqb (one_bit k) 0)) 24 tt i h in
    subst (λ (b : Bool). T (not b)) (eq-eqb (one_bit i) 0 e) t
