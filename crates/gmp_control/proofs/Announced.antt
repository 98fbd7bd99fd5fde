-- What a source's word says, for every table that keeps the rule. Assumes nothing.
use mathlib.Core.Path.{◌≡◌, refl, ◌∙◌, subst⁻¹}
use mathlib.Core.Logic.{◌⊎◌, inl, inr}
use mathlib.Core.Bool.{true, false}
use Prim.Native.Nat.{ℕ, ◌+◌, ◌*◌, ◌/◌, ◌%◌, ◌<◌}
use native.Mathlib.Omega.{arith}
use lib.Dec.{eqb, lit<}
use lib.Bits.{xor_lt}
use borrow.Author.Tests.{eqb-true, eq-eqb}
use Rattle.math.proofs.Choice.{cond_elim}
use Rattle.gmp_control.specs.Word.{modulus, word_of, count_bits, equal_indicators, sign}
use Rattle.gmp_control.specs.Pattern.{Table, Rule, pattern_at}
use Rattle.gmp_control.specs.Announce.{changes_by, announced}
use Rattle.gmp_control.proofs.Pairing.{Of, sent, after}

word_equal : (c i d : ℕ) → i < 2 → d < 2 → equal_indicators (word_of c i d) ≡ eqb i d
unfolding equal_indicators
word_equal c i d hi hd =
    let a : (c % modulus * 4 + i * 2 + d) / 2 % 2 ≡ i = omega arith in
    let b : (c % modulus * 4 + i * 2 + d) % 2 ≡ d = omega arith in
    rw (a, b)

word_bits : (c i d : ℕ) → c < modulus → i < 2 → d < 2 → count_bits (word_of c i d) ≡ c
word_bits c i d hc hi hd = omega arith

word_sign : (c i d : ℕ) → i < 2 → d < 2 → sign (word_of c i d) ≡ d
word_sign c i d hi hd = omega arith

word_lt : (c i d : ℕ) → i < 2 → d < 2 → word_of c i d < 65536
word_lt c i d hi hd = omega arith

-- II = DI: the count bits are the next count
pub record Plain (next w : ℕ) : Type 0 where
  pub equal : equal_indicators w ≡ true
  pub count : count_bits w ≡ next

-- II ≠ DI: they are the old count exclusive-or the pattern of a change of the sign
pub record Changes (t : Table) (old next w : ℕ) : Type 0 where
  pub change : ℕ
  pub unequal : equal_indicators w ≡ false
  pub small : sign w < 2
  pub of : Of (sign w) change
  pub bits : count_bits w ≡ sent t old change
  pub moves : next ≡ after old change

abbrev pub Announces : Table → ℕ → ℕ → ℕ → Type 0
Announces t old next w = Plain next w ⊎ Changes t old next w

module _ (t : Table) (rule : Rule t) (old next : ℕ) (ho : old < modulus) (hn : next < modulus) where
  plainly : (c i : ℕ) → i < 2 → c ≡ next → Plain next (word_of c i i)
  plainly c i h e =
      record {
        equal = word_equal c i i h h ∙ eq-eqb i i refl;
        count = word_bits c i i (omega arith) h h ∙ e;
      }

  changed : (i g k : ℕ) → i < 2 → g < 2 → eqb i g ≡ false → Of g k → changes_by old next k ≡ true → Changes t old next (word_of (sent t old k) i g)
  changed i g k hi hg e o m =
      let s = word_sign (sent t old k) i g hi hg in
      record {
        change = k;
        unequal = word_equal (sent t old k) i g hi hg ∙ e;
        small = subst⁻¹ (λ (x : ℕ). x < 2) s hg;
        of = subst⁻¹ (λ (x : ℕ). Of x k) s o;
        bits = word_bits (sent t old k) i g (xor_lt 14 old (pattern_at t k) ho (rule.short k)) hi hg;
        moves = omega (arith, eqb-true (next % modulus) (after old k) m);
      }

  pub announced_says : Announces t old next (announced t old next)
  unfolding announced
  announced_says =
      cond_elim P (eqb (next % modulus) (old % modulus)) _ _
      (λ e. inl (plainly old 0 (lit< tt) (omega (arith, eqb-true (next % modulus) (old % modulus) e)))) λ _.
      cond_elim P (changes_by old next 0) _ _ (λ e. inr (changed 1 0 0 (lit< tt) (lit< tt) refl (inl refl) e)) λ _.
      cond_elim P (changes_by old next 1) _ _ (λ e. inr (changed 0 1 1 (lit< tt) (lit< tt) refl (inl refl) e)) λ _.
      cond_elim P (changes_by old next 2) _ _ (λ e. inr (changed 1 0 2 (lit< tt) (lit< tt) refl (inr refl) e)) λ _.
      cond_elim P (changes_by old next 3) _ _ (λ e. inr (changed 0 1 3 (lit< tt) (lit< tt) refl (inr refl) e)) λ _.
      inl (plainly next 1 (lit< tt) refl)
    where
      P : ℕ → Type 0
      P w = Announces t old next w

-- a source's word has 16 bits
pub announced_lt : (t : Table) (old next : ℕ) → announced t old next < 65536
unfolding announced
announced_lt t old next =
    cond_elim P (eqb (next % modulus) (old % modulus)) _ _ (λ _. word_lt old 0 0 (lit< tt) (lit< tt)) λ _.
    cond_elim P (changes_by old next 0) _ _ (λ _. word_lt (sent t old 0) 1 0 (lit< tt) (lit< tt)) λ _.
    cond_elim P (changes_by old next 1) _ _ (λ _. word_lt (sent t old 1) 0 1 (lit< tt) (lit< tt)) λ _.
    cond_elim P (changes_by old next 2) _ _ (λ _. word_lt (sent t old 2) 1 0 (lit< tt) (lit< tt)) λ _.
    cond_elim P (changes_by old next 3) _ _ (λ _. word_lt (sent t old 3) 0 1 (lit< tt) (lit< tt)) λ _.
    word_lt next 1 1 (lit< tt) (lit< tt)
  where
    P : ℕ → Type 0
    P w = w < 65536
