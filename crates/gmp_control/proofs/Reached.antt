-- How a sink's count and remembered word go along with the words of a source, before the window,
-- for every table that keeps the rule. Assumes nothing.
use mathlib.Core.Path.{◌≡◌, refl, sym, ap, ◌∙◌, subst⁻¹, subst}
use mathlib.Core.Logic.{◌⊎◌, inl, inr, ⊎_elim}
use mathlib.Core.Bool.{true, false, cond}
use Prim.Native.Nat.{ℕ, ◌+◌}
use Rattle.gmp_standing.specs.declared.Count.{Count}
use Rattle.gmp_standing.specs.declared.Count.TheVariants.{Known, Unknown}
use Rattle.gmp_standing.specs.Standing.{Finding, finding, READ, TRACKED}
use Rattle.std.specs.Prelude.{Option, Some, None}
use Rattle.gmp_standing.specs.Standing.{Finding, finding, READ, TRACKED}
use Rattle.gmp_control.specs.Word.{count_bits, equal_indicators, sign}
use Rattle.gmp_control.specs.Pattern.{Table, Rule}
use Rattle.gmp_control.specs.Follow.{tracked, candidate, or_else, paired, from_count, from_word, tracked_else_paired, reached}
use Rattle.gmp_control.proofs.Pairing.{Possible, tracked_true, reached_possible, paired_true, possible_leads}
use Rattle.gmp_control.proofs.Announced.{Changes, Announces}

-- the count is none, or has the property
abbrev pub NoneOr : (ℕ → Type 0) → Count → Type 0
NoneOr P Unknown = Unit {0}
NoneOr P (Known n) = P n

pub or_else_keeps : (P : ℕ → Type 0) (x y : Count) → NoneOr P x → NoneOr P y → NoneOr P (or_else x y)
or_else_keeps P (Known n) y p q = p
or_else_keeps P Unknown y p q = q

found_tracked_else_paired : (x y : Count) → (tracked_else_paired x y).count ≡ or_else x y
found_tracked_else_paired (Known n) y = refl
found_tracked_else_paired Unknown (Known n) = refl
found_tracked_else_paired Unknown Unknown = refl

-- rule 2
pub reached_plain : (t : Table) (c : Count) (r : Option ℕ) (w : ℕ) → equal_indicators w ≡ true → reached t c r w ≡ finding READ (Known (count_bits w))
unfolding reached
reached_plain t c r w e = rw e

-- rule 3
reading_usable : (t : Table) (c : Count) (r : Option ℕ) (w : ℕ) → equal_indicators w ≡ false
    → reached t c r w ≡ tracked_else_paired (from_count t c w) (from_word t r w)
unfolding reached
reading_usable t c r w e = rw e

pub count_usable : (t : Table) (c : Count) (r : Option ℕ) (w : ℕ) → equal_indicators w ≡ false
    → (reached t c r w).count ≡ or_else (from_count t c w) (from_word t r w)
count_usable t c r w e = ap (λ (f : Finding). f.count) (reading_usable t c r w e) ∙ found_tracked_else_paired (from_count t c w) (from_word t r w)

-- n is one of the two possible counts of the word w
abbrev pub PossibleOf : Table → ℕ → ℕ → Type 0
PossibleOf t w n = Possible t (count_bits w) (sign w) n

module _ (t : Table) (rule : Rule t) where
  -- from the true count to the next
  pub from_true : (old next w : ℕ) → Changes t old next w → from_count t (Known old) w ≡ Known next
  from_true old next w h =
      rw h.bits (tracked_true t rule old (sign w) h.change h.small h.of) ∙ ap Known (sym h.moves)

  -- 1. A sink with the true count reads or tracks the next.
  pub reached_true : (old next w : ℕ) (r : Option ℕ) → Announces t old next w
      → reached t (Known old) r w ≡ finding (cond (equal_indicators w) READ TRACKED) (Known next)
  reached_true old next w r (inl p) =
      reached_plain t (Known old) r w p.equal ∙ rw p.equal (ap (λ (n : ℕ). finding READ (Known n)) p.count)
  reached_true old next w r (inr h) =
      reading_usable t (Known old) r w h.unequal ∙ rw h.unequal (ap (λ (x : Count). tracked_else_paired x (from_word t r w)) (from_true old next w h))

  -- 2. A word leads any state to none or to one of its possible counts.
  tracked_possible : (c w : ℕ) (x : Count) → tracked t c (count_bits w) (sign w) ≡ x → NoneOr (PossibleOf t w) x
  tracked_possible c w (Known n) e = reached_possible t rule c (count_bits w) (sign w) n e
  tracked_possible c w Unknown e = tt

  count_possible : (c : Count) (w : ℕ) → NoneOr (PossibleOf t w) (from_count t c w)
  count_possible (Known n) w = tracked_possible n w _ refl
  count_possible Unknown w = tt

  word_possible : (r : Option ℕ) (w : ℕ) → NoneOr (PossibleOf t w) (from_word t r w)
  unfolding paired
  word_possible (Some v) w =
      or_else_keeps (PossibleOf t w) (tracked t (candidate t (count_bits v) (sign v)) (count_bits w) (sign w))
      (tracked t (candidate t (count_bits v) (sign v + 2)) (count_bits w) (sign w))
      (tracked_possible _ w _ refl) (tracked_possible _ w _ refl)
  word_possible None w = tt

  pub reached_any : (c : Count) (r : Option ℕ) (w : ℕ) → equal_indicators w ≡ false → NoneOr (PossibleOf t w) (reached t c r w).count
  reached_any c r w e =
      subst⁻¹ (NoneOr (PossibleOf t w)) (count_usable t c r w e)
      (or_else_keeps (PossibleOf t w) (from_count t c w) (from_word t r w) (count_possible c w) (word_possible r w))

  -- Two words of a source in succession, both with II ≠ DI.
  module _ (old mid next v w : ℕ) (g : Changes t old mid v) (h : Changes t mid next w) where
    -- 3. A remembered true word and the one after it lead to the true count,
    pub word_true : from_word t (Some v) w ≡ Known next
    word_true =
        rw (g.bits, h.bits, h.moves, g.moves)
        (paired_true t rule old (sign v) g.change (sign w) h.change g.small h.small g.of h.of)

    possible_true : (c : ℕ) → PossibleOf t v c → (from_count t (Known c) w ≡ Unknown) ⊎ (from_count t (Known c) w ≡ Known next)
    possible_true c p =
        rw (h.bits, h.moves, g.moves)
        (possible_leads t rule old (sign v) g.change (sign w) h.change g.small h.small g.of h.of c
        (subst (λ (b : ℕ). Possible t b (sign v) c) g.bits p))

    -- also beside any of the possible counts of the first.
    pub second_reading : (c : Count) → NoneOr (PossibleOf t v) c → (reached t c (Some v) w).count ≡ Known next
    second_reading (Known c) p =
        count_usable t (Known c) (Some v) w h.unequal
        ∙ ⊎_elim (λ e. ap (λ (x : Count). or_else x (from_word t (Some v) w)) e ∙ word_true)
        (λ e. ap (λ (x : Count). or_else x (from_word t (Some v) w)) e) (possible_true c p)
    second_reading Unknown p = count_usable t Unknown (Some v) w h.unequal ∙ word_true
