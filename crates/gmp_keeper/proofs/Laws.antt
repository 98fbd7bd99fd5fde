-- What an accepted call of the keeper knows, and what it gives. Assumes nothing.
use mathlib.Core.Path.{◌≡◌, refl, ap}
use mathlib.Core.Bool.{false}
use Prim.Native.Nat.{ℕ, ◌+◌, ◌*◌, ◌/◌, ◌%◌, ◌≤◌, ◌<◌}
use native.Mathlib.Nat.{add-mul, mul-le-mul, le-div_iff_mul-le, div-lt_iff_lt-mul}
use native.Mathlib.Omega.{arith}
use lib.Dec.{eqb, ltb, lit<}
use borrow.Author.Tests.{eqb-false, ltb-false, leb-false, le-ltb, ne_eqb}
use Rattle.math.proofs.Choice.{neither}
use Rattle.gmp_settings.specs.declared.Settings.{Settings}
use Rattle.refusals.specs.Table.{accepted, refused}
use Rattle.gmp_settings.specs.Settings.{Fit, outside}
use Rattle.gmp_settings.specs.Patterns.{bad_patterns}
use Rattle.refusals.proofs.Laws.{none_applies}
use Rattle.gmp_settings.proofs.Laws.{settings_fit, all_passed}
use Rattle.gmp_keeper.specs.Keeper.{bad_divisor, bad_rate, bad_remainder, keeper_reasons, keeper_refusal, NumbersAscend, kept_by, keeper_call}

pub numbers_ascend : NumbersAscend
unfolding keeper_refusal
numbers_ascend s p q r = (refl, refl)

-- a call to which no line applies
pub record Accepted (s : Settings) (p q r : ℕ) : Type 0 where
  pub fit : Fit s
  pub positive : 0 < q
  pub small : q ≤ 65535
  pub least : s.lo ≤ p / q
  pub most : p ≤ s.hi * q
  pub below : r < q
  pub patterns : bad_patterns s ≡ false

pub accepted_knows : (s : Settings) (p q r : ℕ) → keeper_refusal s p q r ≡ 0 → Accepted s p q r
unfolding keeper_refusal
accepted_knows s p q r e =
    let all = all_passed s (keeper_reasons s p q r) e in
    let three = none_applies 3 (bad_divisor q) _ (lit< tt) all.1 in
    let four = none_applies 4 (bad_rate s p q) _ (lit< tt) three.1 in
    let five = none_applies 5 (bad_remainder q r) _ (lit< tt) four.1 in
    let fourteen = none_applies 14 (bad_patterns s) _ (lit< tt) five.1 in
    let d = neither (eqb q 0) (ltb 65535 q) three.0 in
    let t = neither (ltb (p / q) s.lo) (ltb (s.hi * q) p) four.0 in
    let z : q ≡ 0 → ⊥ = eqb-false q 0 d.0 in
    record {
      fit = settings_fit s all.0;
      positive = omega (arith, z);
      small = ltb-false _ _ d.1;
      least = ltb-false _ _ t.0;
      most = ltb-false _ _ t.1;
      below = leb-false _ _ five.0;
      patterns = fourteen.0;
    }

module _ (s : Settings) (p q r : ℕ) (a : Accepted s p q r) where
  -- the sum fits 32 bits
  pub total_lt : r + p < 2000000000
  total_lt =
      let h : s.hi ≤ 15232 = omega (arith, a.fit.widest, a.fit.within) in
      let m : s.hi * q ≤ 15232 * 65535 = mul-le-mul h a.small in
      omega (arith, a.below, a.small, a.most)

  -- the count lies in the window
  pub count_inside : outside s ((r + p) / q) ≡ false
  unfolding outside
  count_inside =
      let m : s.lo * q ≤ p = (le-div_iff_mul-le {k = q} a.positive).0 a.least in
      let low : s.lo ≤ (r + p) / q = (le-div_iff_mul-le {k = q} a.positive).1 (omega arith) in
      let high : (r + p) / q < s.hi + 1 = (div-lt_iff_lt-mul {k = q} a.positive).1 (omega (arith, a.below, a.most, add-mul s.hi 1 q)) in
      let h : (r + p) / q ≤ s.hi = omega arith in
      simp (le-ltb _ _ low, le-ltb _ _ h)

-- the two cases of a call
pub call_accepted : (s : Settings) (p q r : ℕ) → keeper_refusal s p q r ≡ 0
    → keeper_call s p q r ≡ record { answer = accepted ((r + p) / q); remainder = (r + p) % q }
unfolding keeper_call
call_accepted s p q r e = ap (λ (n : ℕ). kept_by n p q r) e

pub call_refused : (s : Settings) (p q r : ℕ) → (keeper_refusal s p q r ≡ 0 → ⊥)
    → keeper_call s p q r ≡ record { answer = refused (keeper_refusal s p q r); remainder = r }
unfolding keeper_call
call_refused s p q r h = simp (ne_eqb _ _ h)
