-- The distance of the check: two words that pass and differ in at most three of their 24 bits are
-- the same. The remainders of two words differ by the remainder of their difference, so one
-- test runs over the differences: at most so many bits apart, from the first on. Assumes nothing.
use mathlib.Core.Path.{◌≡◌, refl, sym, ap, ap₂, ◌∙◌, subst, subst⁻¹}
use mathlib.Core.Bool.{Bool, true, false, not, ◌&&◌, xor}
use mathlib.Core.List.{List, [], ◌∷◌, ◌++◌}
use Prim.Native.Nat.{ℕ, zero, suc, ◌+◌, ◌*◌, ◌-◌, ◌≤◌, ◌<◌}
use native.Mathlib.Omega.{arith}
use lib.Bits.{bit_xor, xor_self, xor_comm}
use lib.Dec.{T, eqb, eqb→eq, T_not, lit<}
use lib.ListN.{length, take, drop}
use Rattle.math.proofs.Finite.{both_left, both_right}
use Rattle.math.specs.Bits.{digit, bits, differing}
use Rattle.gmp_crc8.specs.Division.{reduce, divide}
use Rattle.gmp_crc8.specs.Check.{remainder, passes, syndrome, word, wrong_bits}
use Rattle.gmp_crc8.proofs.Linear.{step_xor, step_lt, divide_lt, divide_append, divide_bits, divide_byte}

-- of two divisions whose remainders differ by d, n digits before the end: at most k further
-- differences never bring them together
apart : ℕ → ℕ → ℕ → Bool
apart zero k d = not (eqb d 0)
apart (suc n) zero d = apart n zero (reduce (d * 2 + 0))
apart (suc n) (suc k) d = apart n (suc k) (reduce (d * 2 + 0)) && apart n k (reduce (d * 2 + 1))

-- how many places two words that pass may differ in, and the further ones after the first
abbrev pub most : ℕ
most = 3

abbrev further : ℕ
further = most - 1

-- the first of n digits at which two words differ, and the further differences after it
apart_from : ℕ → Bool
apart_from zero = true
apart_from (suc n) = apart n further 1 && apart_from n

-- the computed test: each pattern of one to three wrong bits among 24
apart_24 : T (apart_from 24)
unfolding apart_from apart reduce
apart_24 = tt

-- two lists of one length
abbrev pub Same : List Bool → List Bool → Type 0
Same [] [] = Unit {0}
Same [] (y ∷ ys) = ⊥
Same (x ∷ xs) [] = ⊥
Same (x ∷ xs) (y ∷ ys) = Same xs ys

-- the test after one more digit, where the two words differ (e) or not
next : (n k d m : ℕ) (e : Bool) → T (apart (suc n) k d) → digit e + m ≤ k → (j : ℕ) × T (apart n j (reduce (d * 2 + digit e))) × (m ≤ j)
unfolding apart
next n zero d m false t h = (zero, t, omega arith)
next n zero d m true t h = absurd (omega arith)
next n (suc k) d m false t h = (suc k, both_left (apart n (suc k) (reduce (d * 2 + 0))) (apart n k (reduce (d * 2 + 1))) t, omega arith)
next n (suc k) d m true t h = (k, both_right (apart n (suc k) (reduce (d * 2 + 0))) (apart n k (reduce (d * 2 + 1))) t, omega arith)

far : (xs ys : List Bool) (k r s : ℕ) → Same xs ys → r < 256 → s < 256 → T (apart (length xs) k (bit_xor r s))
    → differing xs ys ≤ k → divide r xs ≡ divide s ys → ⊥
unfolding divide differing apart
far [] [] k r s l hr hs t h e =
    T_not (eqb (bit_xor r s) 0) t (subst⁻¹ (λ (m : ℕ). T (eqb m 0)) (ap (λ (m : ℕ). bit_xor m s) e ∙ xor_self s) tt)
far [] (y ∷ ys) k r s l hr hs t h e = l
far (x ∷ xs) [] k r s l hr hs t h e = l
far (x ∷ xs) (y ∷ ys) k r s l hr hs t h e =
    let w = next (length xs) k (bit_xor r s) (differing xs ys) (xor x y) t h in
    far xs ys w.0 (reduce (r * 2 + digit x)) (reduce (s * 2 + digit y)) l (step_lt r x hr) (step_lt s y hs)
    (subst (λ (d : ℕ). T (apart (length xs) w.0 d)) (step_xor r s x y hr hs) w.1) w.2 e

-- where two words differ for the first time, their remainders stay apart
differ_at : (xs ys : List Bool) (r : ℕ) (x y : Bool) → xor x y ≡ true → Same xs ys → r < 256 → T (apart (length xs) further 1)
    → differing (x ∷ xs) (y ∷ ys) ≤ most → divide r (x ∷ xs) ≡ divide r (y ∷ ys) → ⊥
unfolding divide differing reduce
differ_at xs ys r x y u l hr t h e =
    far xs ys further (reduce (r * 2 + digit x)) (reduce (r * 2 + digit y)) l (step_lt r x hr) (step_lt r y hr)
    (subst (λ (d : ℕ). T (apart (length xs) further d))
    (sym (ap₂ (λ (a : ℕ) (b : Bool). reduce (a * 2 + digit b)) (xor_self r) u) ∙ step_xor r r x y hr hr) t)
    (omega (arith, ap digit u)) e

near : (xs ys : List Bool) (r : ℕ) → Same xs ys → r < 256 → T (apart_from (length xs))
    → differing xs ys ≤ most → divide r xs ≡ divide r ys → xs ≡ ys
unfolding divide differing apart_from xor
near [] [] r l hr t h e = refl
near [] (y ∷ ys) r l hr t h e = absurd l
near (x ∷ xs) [] r l hr t h e = absurd l
near (true ∷ xs) (true ∷ ys) r l hr t h e =
    ap (λ (zs : List Bool). true ∷ zs)
    (near xs ys (reduce (r * 2 + 1)) l (step_lt r true hr) (both_right (apart (length xs) further 1) (apart_from (length xs)) t) (omega arith) e)
near (false ∷ xs) (false ∷ ys) r l hr t h e =
    ap (λ (zs : List Bool). false ∷ zs)
    (near xs ys (reduce (r * 2 + 0)) l (step_lt r false hr) (both_right (apart (length xs) further 1) (apart_from (length xs)) t) (omega arith) e)
near (true ∷ xs) (false ∷ ys) r l hr t h e =
    absurd (differ_at xs ys r true false refl l hr (both_left (apart (length xs) further 1) (apart_from (length xs)) t) h e)
near (false ∷ xs) (true ∷ ys) r l hr t h e =
    absurd (differ_at xs ys r false true refl l hr (both_left (apart (length xs) further 1) (apart_from (length xs)) t) h e)

-- what is left of the 24 bits is the remainder of the three bytes as read
pub divided : (a b c : ℕ) → c < 256 → divide 0 (word a b c) ≡ syndrome a b c
unfolding remainder syndrome word wrong_bits
divided a b c hc =
    split c ∙ divide_byte r c (divide_lt (bits b) (divide 0 (bits a)) (divide_lt (bits a) 0 (lit< tt))) hc
    ∙ xor_comm (divide r (bits 0)) c ∙ ap (bit_xor c) (sym (split 0))
  where
    r : ℕ
    r = divide (divide 0 (bits a)) (bits b)

    split : (x : ℕ) → divide 0 (bits a ++ (bits b ++ bits x)) ≡ divide r (bits x)
    split x = divide_append (bits a) (bits b ++ bits x) 0 ∙ divide_append (bits b) (bits x) (divide 0 (bits a))

-- a word that passes has none
pub passed_none : (a b c : ℕ) → T (passes a b c) → syndrome a b c ≡ 0
unfolding passes syndrome
passed_none a b c t = ap (λ (x : ℕ). bit_xor x (remainder a b)) (eqb→eq c (remainder a b) t) ∙ xor_self (remainder a b)

bits_same : (a b : ℕ) → a < 256 → b < 256 → bits a ≡ bits b → a ≡ b
bits_same a b ha hb e = sym (divide_bits a ha) ∙ ap (divide 0) e ∙ divide_bits b hb

pub distance : (a b c x y z : ℕ) → (a < 256) × (b < 256) × (c < 256) → (x < 256) × (y < 256) × (z < 256)
    → T (passes a b c) → T (passes x y z) → wrong_bits a b c x y z ≤ most → (x ≡ a) × (y ≡ b) × (z ≡ c)
unfolding bits word wrong_bits
distance a b c x y z u v p q h =
    let e : word a b c ≡ word x y z =
    near (word a b c) (word x y z) 0 tt (lit< tt) apart_24 h
    (divided a b c u.2 ∙ passed_none a b c p ∙ sym (divided x y z v.2 ∙ passed_none x y z q)) in (
      sym (bits_same a x u.0 v.0 (ap (take 8) e)),
      sym (bits_same b y u.1 v.1 (ap (λ (l : List Bool). take 8 (drop 8 l)) e)),
      sym (bits_same c z u.2 v.2 (ap (drop 16) e)),
    )
