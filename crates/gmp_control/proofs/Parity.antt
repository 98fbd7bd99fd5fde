-- Why a word continues one count only. The two patterns of a sign differ in the bits D, the same
-- for both signs, and of their two changes one is odd and one even. Nothing here looks at the
-- patterns themselves. Assumes nothing.
use mathlib.Core.Path.{◌≡◌, sym, ap, ◌∙◌}
use mathlib.Core.Logic.{◌⊎◌, inl, inr, ⊎_elim, ⊎_map}
use Prim.Native.Nat.{ℕ, ◌+◌, ◌%◌}
use native.Mathlib.Omega.{arith}
use lib.Bits.{bit_xor, xor_add_and, xor_self, xor_comm, xor_zero_r}
use Rattle.math.proofs.Xor.{xor_assoc, xor_undo_l}
use Rattle.gmp_control.specs.Word.{moved}

-- the lowest bit of their exclusive-or is that of D turned over
parity : (D old d e : ℕ) → (d + e) % 2 ≡ 1 → bit_xor (moved (bit_xor old D) e) (moved old d) ≡ D → ⊥
parity D old d e o h = omega (arith, xor_add_and (moved (bit_xor old D) e) (moved old d), xor_add_and old D)

-- q is one of two patterns
abbrev pub OneOf : ℕ → ℕ → ℕ → Type 0
OneOf a b q = (q ≡ a) ⊎ (q ≡ b)

module _ (a b D : ℕ) (ab : bit_xor a b ≡ D) where
  -- two patterns of a sign differ in no bit or in D
  apart : (q r : ℕ) → OneOf a b q → OneOf a b r → (bit_xor q r ≡ 0) ⊎ (bit_xor q r ≡ D)
  apart q r (inl x) (inl y) = inl (cc (xor_self a))
  apart q r (inl x) (inr y) = inr (cc)
  apart q r (inr x) (inl y) = inr (cc (xor_comm b a))
  apart q r (inr x) (inr y) = inl (cc (xor_self b))

  -- the counts that a word continues: the true one t, and t exclusive-or D
  two : (t f q r : ℕ) → OneOf a b q → OneOf a b r → bit_xor (bit_xor t q) f ≡ r → (f ≡ t) ⊎ (f ≡ bit_xor t D)
  two t f q r hq hr e =
      let s : f ≡ bit_xor t (bit_xor q r) = sym (xor_undo_l (bit_xor t q) f) ∙ ap (bit_xor (bit_xor t q)) e ∙ xor_assoc t q r in
      ⊎_map (λ z. s ∙ ap (bit_xor t) z ∙ xor_zero_r t) (λ z. s ∙ ap (bit_xor t) z) (apart q r hq hr)

  -- so the false possible count of the word before is not continued, unless it is the true one
  pub only : (old d e q r : ℕ) → (d + e) % 2 ≡ 1 → OneOf a b q → OneOf a b r
      → bit_xor (bit_xor (moved old d) q) (moved (bit_xor old D) e) ≡ r → moved (bit_xor old D) e ≡ moved old d
  only old d e q r o hq hr h =
      let t : ℕ = moved old d in
      let f : ℕ = moved (bit_xor old D) e in
      ⊎_elim (λ z. z) (λ z. absurd (parity D old d e o (xor_comm f t ∙ ap (bit_xor t) z ∙ xor_undo_l t D))) (two t f q r hq hr h)
