-- From one payload byte to the next: what the step does to the whole part and the remainder of n ×
-- C / S, and so to the byte that is placed and to the bytes that are chosen. Assumes nothing.
use mathlib.Core.Path.{◌≡◌, refl, ◌∙◌, subst}
use mathlib.Core.Bool.{true, false, cond}
use mathlib.Core.List.{List, [], ◌∷◌, ◌++◌, append_assoc, append-nil}
use mathlib.Core.Logic.{◌⊎◌, ⊎_elim, inl, inr}
use Prim.Native.Nat.{ℕ, zero, suc, ◌+◌, ◌-◌, ◌*◌, ◌/◌, ◌%◌, ◌≤◌, ◌<◌}
use native.Mathlib.Nat.{add-mul, add-zero, add-suc, add-sub_cancel, div-add-mod', div-le_of_le-mul, mod-lt, mul-div_right, mul-le-mul_right, mul-zero, zero-div, zero-mul}
use native.Mathlib.Decide.{dec_le}
use native.Mathlib.Numerals.{add-one}
use native.Mathlib.Omega.{arith}
use lib.Arith.{digits_div, digits_mod}
use lib.ListN.{length, get_or, take, length-append}
use lib.Seq.{take-suc}
use borrow.Author.Tests.{lt-ltb, le-ltb}
use Rattle.gmp_places.specs.Places.{carries, places, placed, tabulate, chosen}

-- payload byte n + 1 is stuffing
pub record Stuffing (C S n : ℕ) : Type 0 where
  pub count : (n + 1) * C / S ≡ n * C / S
  pub rest : (n + 1) * C % S ≡ n * C % S + C
  pub place : carries C S (n + 1) ≡ false

-- payload byte n + 1 carries a client byte
pub record Client (C S n : ℕ) : Type 0 where
  pub count : (n + 1) * C / S ≡ n * C / S + 1
  pub rest : (n + 1) * C % S ≡ n * C % S + C - S
  pub place : carries C S (n + 1) ≡ true

module _ (C S : ℕ) (le : C ≤ S) (n : ℕ) where
  next : (n + 1) * C ≡ n * C / S * S + (n * C % S + C)
  next = omega (arith, add-mul n 1 C, div-add-mod' (n * C) S)

  pub step_stuffing : n * C % S + C < S → Stuffing C S n
  step_stuffing h =
      let r : (n + 1) * C % S ≡ n * C % S + C = rw next (digits_mod (n * C / S) h) in
      record { count = rw next (digits_div (n * C / S) h); rest = r; place = le-ltb ((n + 1) * C % S) C (omega arith) }

  pub step_client : 0 < S → S ≤ n * C % S + C → Client C S n
  step_client pos h =
      let l : n * C % S < S = mod-lt (n * C) pos in
      let k : n * C % S + C - S < S = omega arith in
      let e : (n + 1) * C ≡ (n * C / S + 1) * S + (n * C % S + C - S) = omega (arith, next, add-mul (n * C / S) 1 S) in
      let r : (n + 1) * C % S ≡ n * C % S + C - S = rw e (digits_mod (n * C / S + 1) k) in
      record { count = rw e (digits_div (n * C / S + 1) k); rest = r; place = lt-ltb ((n + 1) * C % S) C (omega arith) }

  -- with no payload bytes at all the count is 0, and no place carries a client byte
  step_none : S ≡ 0 → Stuffing C S n
  step_none z =
      let c : C ≡ 0 = omega arith in
      record { count = simp (c, mul-zero); rest = simp (z, c, mul-zero); place = le-ltb ((n + 1) * C % S) C (omega arith) }

  -- every place is one or the other
  pub step : Client C S n ⊎ Stuffing C S n
  step =
      elim (dec_le 1 S) [
        | yes pos ↦ elim (dec_le S (n * C % S + C)) [ yes h ↦ inl (step_client pos h) | no h ↦ inr (step_stuffing (omega arith)) ]
        | no h ↦ inr (step_none (omega arith))
      ]

-- no more client bytes before place n + 1 than there are in all
pub count_le : (C S n : ℕ) → n ≤ S → n * C / S ≤ C
count_le C S n h = div-le_of_le-mul S (mul-le-mul_right C h)

-- and after the last place there have been all
pub count_all : (C S : ℕ) → C ≤ S → S * C / S ≡ C
count_all C zero h = let e : C ≡ 0 = omega arith in rw e
count_all C (suc S) h = mul-div_right C (omega arith)

-- the places counted one by one are the whole part of n × C / S
module _ (C S : ℕ) (le : C ≤ S) where
  places_next : (n : ℕ) → places C S (n + 1) ≡ places C S n + cond (carries C S (n + 1)) 1 0
  unfolding places
  places_next n = rw (add-one n)

  places_more : (n : ℕ) → places C S n ≡ n * C / S → places C S (n + 1) ≡ (n + 1) * C / S
  places_more n e =
      places_next n
      ∙ ⊎_elim (λ s. rw (s.place, e, s.count)) (λ s. rw (s.place, s.count) (omega (arith, e))) (step C S le n)

  pub places_whole : (n : ℕ) → places C S n ≡ n * C / S
  unfolding places
  places_whole zero = rw (zero-mul C, zero-div S)
  places_whole (suc n) = subst (λ (m : ℕ). places C S m ≡ m * C / S) (add-one n) (places_more n (places_whole n))

-- the byte that a step places
module _ (C S : ℕ) (bytes : List ℕ) (n : ℕ) where
  pub placed_stuffing : Stuffing C S n → placed C S bytes (n + 1) ≡ 0
  unfolding placed
  placed_stuffing s = rw s.place

  pub placed_client : C ≤ S → Client C S n → placed C S bytes (n + 1) ≡ get_or bytes (n * C / S) 0
  unfolding placed
  placed_client le s = rw (s.place, add-sub_cancel n 1, places_whole C S le n)

-- one value more, their number, and the values in two parts
pub tabulate_more : (f : ℕ → ℕ) (n k : ℕ) → tabulate f n (k + 1) ≡ tabulate f n k ++ (f (n + k + 1) ∷ [])
unfolding tabulate
tabulate_more f n k = rw (add-one k)

pub length_tabulate : (f : ℕ → ℕ) (n k : ℕ) → length (tabulate f n k) ≡ k
unfolding tabulate
length_tabulate f n zero = refl
length_tabulate f n (suc k) = simp length-append (omega (arith, length_tabulate f n k))

pub tabulate_append : (f : ℕ → ℕ) (n a b : ℕ) → tabulate f n (a + b) ≡ tabulate f n a ++ tabulate f (n + a) b
unfolding tabulate
tabulate_append f n a zero = rw (add-zero a, append-nil)
tabulate_append f n a (suc b) =
    let e : n + (a + b) + 1 ≡ n + a + b + 1 = omega arith in
    rw (add-suc a b, tabulate_append f n a b, append_assoc, e)

-- as many bytes are chosen as the whole part of n × C / S grows
pub length_chosen : (C S : ℕ) → C ≤ S → (n : ℕ) (p : List ℕ) → length (chosen C S n p) + n * C / S ≡ (n + length p) * C / S
unfolding chosen
length_chosen C S le n [] = rw (add-zero n) (omega arith)
length_chosen C S le n (b ∷ p) =
    let ih = length_chosen C S le (n + 1) p in
    let e : n + suc (length p) ≡ n + 1 + length p = omega arith in
    ⊎_elim
    (λ s. rw (s.place, e) (omega (arith, ih, s.count)))
    (λ s. rw (s.place, e) (omega (arith, ih, s.count)))
    (step C S le n)

pub length_first : (C S : ℕ) → C ≤ S → (p : List ℕ) → length (chosen C S 0 p) ≡ length p * C / S
length_first C S le p =
    let z : 0 * C / S ≡ 0 = rw (zero-mul C, zero-div S) in
    let n : 0 + length p ≡ length p = omega arith in
    omega (arith, rw (z, n) at (length_chosen C S le 0 p))

pub chosen_append : (C S n : ℕ) (p q : List ℕ) → chosen C S n (p ++ q) ≡ chosen C S n p ++ chosen C S (n + length p) q
unfolding chosen
chosen_append C S n [] q = rw (add-zero n)
chosen_append C S n (b ∷ p) q =
    let e : n + suc (length p) ≡ n + 1 + length p = omega arith in
    rw (chosen_append C S (n + 1) p q, append_assoc, e)

-- the bytes chosen from a payload that was placed are the client bytes that were placed
module _ (S : ℕ) (bytes : List ℕ) (le : length bytes ≤ S) where
  abbrev C : ℕ
  C = length bytes

  back_more : (k : ℕ) → k < S → chosen C S 0 (tabulate (placed C S bytes) 0 k) ≡ take (k * C / S) bytes
      → chosen C S 0 (tabulate (placed C S bytes) 0 (k + 1)) ≡ take ((k + 1) * C / S) bytes
  unfolding chosen
  back_more k h ih =
      let z : 0 + k ≡ k = omega arith in
      let split = chosen_append C S 0 (tabulate (placed C S bytes) 0 k) (placed C S bytes (k + 1) ∷ []) in
      ⊎_elim
      (λ s.
      let m : k * C / S < C = omega (arith, s.count, count_le C S (k + 1) (omega arith)) in
      rw (tabulate_more, z, split, length_tabulate, z, ih, s.place, placed_client C S bytes k le s, s.count, add-one (k * C / S), take-suc bytes (k * C / S) 0 m))
      (λ s. rw (tabulate_more, z, split, length_tabulate, z, ih, s.place, append-nil (take (k * C / S) bytes), s.count))
      (step C S le k)

  pub chosen_placed : (k : ℕ) → k ≤ S → chosen C S 0 (tabulate (placed C S bytes) 0 k) ≡ take (k * C / S) bytes
  unfolding chosen tabulate
  chosen_placed zero h = rw (zero-mul C, zero-div S)
  chosen_placed (suc k) h =
      subst (λ (m : ℕ). chosen C S 0 (tabulate (placed C S bytes) 0 m) ≡ take (m * C / S) bytes) (add-one k) (back_more k h (chosen_placed k (omega arith)))
