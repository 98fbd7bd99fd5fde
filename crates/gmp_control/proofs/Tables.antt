-- The tables of patterns and changes. Assumes nothing.
use Prim.Native.Nat.{ℕ, zero, suc, ◌<◌, ◌≤◌}
use mathlib.Core.Path.{◌≡◌, refl}
use mathlib.Core.Bool.{false, not}
use mathlib.Core.List.{[], ◌∷◌}
use native.Mathlib.Omega.{arith}
use lib.Dec.{lit<, eqb, ltb}
use lib.Bits.{bit_xor}
use lib.ListN.{get_or}
use borrow.Author.Tests.{eqb-true, eqb-false, ltb-false, not-false, eq-eqb, ne_eqb, le-ltb}
use Rattle.math.proofs.Choice.{neither}
use Rattle.gmp_settings.specs.declared.Settings.{Settings}
use Rattle.gmp_settings.specs.declared.Patterns.{Patterns}
use Rattle.gmp_settings.specs.declared.Patterns.TheVariants.{Standard, Given}
use Rattle.gmp_settings.specs.Patterns.{breaks_rule, exceeds, bad_given, bad_patterns}
use Rattle.gmp_control.specs.Word.{modulus}
use Rattle.gmp_control.specs.Pattern.{standard, table_by, table_of, change_at, Rule}
use Rattle.gmp_control.specs.Checked.{RuleIsChecked}

-- a table of four has nothing beyond
pub beyond : (a b c d k : ℕ) → 4 ≤ k → get_or (a ∷ b ∷ c ∷ d ∷ []) k 0 ≡ 0
beyond a b c d zero h = absurd (omega arith)
beyond a b c d (suc zero) h = absurd (omega arith)
beyond a b c d (suc (suc zero)) h = absurd (omega arith)
beyond a b c d (suc (suc (suc zero))) h = absurd (omega arith)
beyond a b c d (suc (suc (suc (suc k)))) h = refl

-- four numbers below a bound are a table below it
pub table_lt : (a b c d m : ℕ) → a < m → b < m → c < m → d < m → (k : ℕ) → get_or (a ∷ b ∷ c ∷ d ∷ []) k 0 < m
table_lt a b c d m ha hb hc hd zero = ha
table_lt a b c d m ha hb hc hd (suc zero) = hb
table_lt a b c d m ha hb hc hd (suc (suc zero)) = hc
table_lt a b c d m ha hb hc hd (suc (suc (suc zero))) = hd
table_lt a b c d m ha hb hc hd (suc (suc (suc (suc k)))) = omega arith

-- a change is a number modulo 16,384
pub change_lt : (k : ℕ) → change_at k < modulus
change_lt = table_lt 1 16383 2 16382 modulus (lit< tt) (lit< tt) (lit< tt) (lit< tt)

-- the paper's patterns keep the rule: those of a sign differ in the bits 11001100110011
pub standard_rule : Rule standard
standard_rule =
    record {
      same = refl;
      differ = λ e. omega arith;
      short = table_lt 0b10101010101010 0b01010101010101 0b01100110011001 0b10011001100110 _ (lit< tt) (lit< tt) (lit< tt) (lit< tt);
    }

-- Patterns that number 14 does not refuse keep the rule,
rule_by : (p : Patterns) → bad_given p ≡ false → Rule (table_by p)
rule_by Standard e = standard_rule
rule_by (Given p) e =
    let both = neither (breaks_rule p) (exceeds p) e in
    let rule = neither (not (eqb (bit_xor p.plus1 p.plus2) (bit_xor p.minus1 p.minus2))) _ both.0 in
    let agree = eqb-true (bit_xor p.plus1 p.plus2) (bit_xor p.minus1 p.minus2) (not-false _ rule.0) in
    let four = neither _ (ltb 16383 p.minus2) both.1 in
    let three = neither _ (ltb 16383 p.plus2) four.0 in
    let two = neither (ltb 16383 p.plus1) (ltb 16383 p.minus1) three.0 in
    record {
      same = cc;
      differ = eqb-false _ _ rule.1;
      short = table_lt p.plus1 p.minus1 p.plus2 p.minus2 _
          (omega (arith, ltb-false 16383 p.plus1 two.0)) (omega (arith, ltb-false 16383 p.minus1 two.1))
          (omega (arith, ltb-false 16383 p.plus2 three.1)) (omega (arith, ltb-false 16383 p.minus2 four.1));
    }

-- and those that keep it are not refused.
kept_by : (p : Patterns) → Rule (table_by p) → bad_given p ≡ false
kept_by Standard rule = refl
kept_by (Given p) rule =
    let one : p.plus1 ≤ 16383 = omega (arith, rule.short 0) in
    let two : p.minus1 ≤ 16383 = omega (arith, rule.short 1) in
    let three : p.plus2 ≤ 16383 = omega (arith, rule.short 2) in
    let four : p.minus2 ≤ 16383 = omega (arith, rule.short 3) in
    rw (
      eq-eqb (bit_xor p.plus1 p.plus2) (bit_xor p.minus1 p.minus2) rule.same,
      ne_eqb (bit_xor p.plus1 p.plus2) 0 rule.differ,
      le-ltb _ _ one,
      le-ltb _ _ two,
      le-ltb _ _ three,
      le-ltb _ _ four,
    )

-- so it is with the table of the settings
pub rule_of : (s : Settings) → bad_patterns s ≡ false → Rule (table_of s)
unfolding table_of
rule_of s e = rule_by s.patterns e

rule_kept : (s : Settings) → Rule (table_of s) → bad_patterns s ≡ false
unfolding table_of
rule_kept s rule = kept_by s.patterns rule

pub rule_is_checked : RuleIsChecked
rule_is_checked = record { enough = rule_of; no_more = rule_kept }
