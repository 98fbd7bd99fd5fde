-- What callers cite of the tally: additions add up. Assumes nothing.
use mathlib.Core.Path.{◌≡◌, sym, ap, ◌∙◌}
use Prim.Native.Nat.{ℕ, ◌+◌, ◌≤◌, min}
use native.Mathlib.Decide.{dec_le}
use native.Mathlib.Omega.{arith}
use borrow.Author.Tests.{le-leb, lt-leb}
use Rattle.card_tally.specs.declared.Tally.{Tally}
use Rattle.card_tally.specs.Tally.{largest, cut, added, Of32Bits}

cut_small : (n : ℕ) → n ≤ largest → cut n ≡ n
cut_small n h = simp (le-leb n largest h)

cut_large : (n : ℕ) → largest ≤ n → cut n ≡ largest
cut_large n h = elim (dec_le n largest) [ yes le ↦ cut_small n le ∙ omega arith | no gt ↦ simp (lt-leb n largest (omega arith)) ]

-- the smaller of a number and the largest one is the number cut
pub min_is_cut : (n : ℕ) → min n largest ≡ cut n
min_is_cut n = elim (dec_le n largest) [ yes le ↦ simp (le-leb n largest le) (omega arith) | no gt ↦ simp (lt-leb n largest (omega arith)) (omega arith) ]

-- a sum that was cut and goes on stays where the whole sum is cut
cut_twice : (a b c : ℕ) → cut (cut (a + b) + c) ≡ cut (a + (b + c))
cut_twice a b c =
    elim (dec_le (a + b) largest) [
      | yes le ↦ ap (λ (n : ℕ). cut (n + c)) (cut_small (a + b) le) ∙ ap cut same
      | no gt ↦ ap (λ (n : ℕ). cut (n + c)) (cut_large (a + b) (omega arith)) ∙ cut_large (largest + c) (omega arith) ∙ sym (cut_large (a + (b + c)) (omega arith))
    ]
  where
    same : a + b + c ≡ a + (b + c)
    same = omega arith

-- two additions are one
pub added_twice : (y : Tally) (f b n f' b' n' : ℕ) → added (added y f b n) f' b' n' ≡ added y (f + f') (b + b') (n + n')
unfolding added
added_twice y f b n f' b' n' = rw (cut_twice y.frames f f', cut_twice y.badcheck b b', cut_twice y.bytes n n')

-- an addition of nothing leaves a tally of 32 bits
pub added_nothing : (y : Tally) → Of32Bits y → added y 0 0 0 ≡ y
unfolding added
added_nothing y h = rw (same y.frames h.frames, same y.badcheck h.badcheck, same y.bytes h.bytes)
  where
    same : (n : ℕ) → n ≤ largest → cut (n + 0) ≡ n
    same n h = let z : n + 0 ≡ n = omega arith in ap cut z ∙ cut_small n h

-- and every addition makes one
cut_le : (n : ℕ) → cut n ≤ largest
cut_le n = elim (dec_le n largest) [ yes le ↦ rw (cut_small n le) le | no gt ↦ rw (cut_large n (omega arith)) (omega arith) ]

pub added_32_bits : (y : Tally) (f b n : ℕ) → Of32Bits (added y f b n)
unfolding added
added_32_bits y f b n = record { frames = cut_le (y.frames + f); badcheck = cut_le (y.badcheck + b); bytes = cut_le (y.bytes + n) }
