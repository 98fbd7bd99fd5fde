-- What the crates above cite of the control word: how a sink's count and remembered word go along
-- with the words that a source writes. All of it holds for every table of patterns that keeps the
-- rule. Assumes nothing.
use mathlib.Core.Path.{◌≡◌, refl, sym, ap, ◌∙◌, subst⁻¹}
use mathlib.Core.Logic.{◌⊎◌, inl, inr}
use mathlib.Core.Bool.{Bool, true, false, true≢false, cond}
use Prim.Native.Nat.{ℕ, ◌<◌}
use native.Mathlib.Omega.{arith}
use Rattle.gmp_settings.specs.declared.Settings.{Settings}
use Rattle.gmp_settings.specs.Settings.{Fit, outside}
use Rattle.gmp_settings.proofs.Laws.{inside_window}
use Rattle.gmp_standing.specs.declared.Count.{Count}
use Rattle.gmp_standing.specs.declared.Count.TheVariants.{Known, Unknown}
use Rattle.gmp_standing.specs.Standing.{Finding, finding, READ, TRACKED, OUTSIDE}
use Rattle.gmp_standing.specs.Known.{in_window}
use Rattle.std.specs.Prelude.{Option, Some, None}
use Rattle.gmp_control.specs.Word.{modulus, equal_indicators, word_bytes, word_by}
use Rattle.gmp_control.specs.Pattern.{Table, Rule}
use Rattle.gmp_control.specs.Announce.{announced}
use Rattle.gmp_control.specs.Follow.{usable, tracked, from_count, from_word, reached, windowed_by, windowed, found_by}
use Rattle.gmp_control.specs.Claims.{ContinuesOne, TablesServe}
use Rattle.gmp_control.proofs.Tables.{standard_rule}
use Rattle.gmp_control.proofs.Pairing.{one_continued}
use Rattle.gmp_control.proofs.Announced.{Plain, Changes, Announces, announced_says, announced_lt}
use Rattle.gmp_control.proofs.Reached.{NoneOr, or_else_keeps, reached_plain, count_usable, PossibleOf, from_true, reached_true, reached_any, word_true, second_reading}

-- the two bytes of a source's word give the word back
pub word_back : (t : Table) (old next : ℕ) → let b = word_bytes (announced t old next) in word_by b.jc1 b.jc2 ≡ announced t old next
word_back t old next = omega arith

-- and are bytes
pub word_bytes_lem : (t : Table) (old next : ℕ) → let b = word_bytes (announced t old next) in (b.jc1 < 256) × (b.jc2 < 256)
word_bytes_lem t old next = (omega (arith, announced_lt t old next), omega arith)

-- counts inside the window have 14 bits
count_lt : (s : Settings) (n : ℕ) → Fit s → outside s n ≡ false → n < modulus
count_lt s n fit e = omega (arith, inside_window s n e, fit.widest, fit.within)

-- a count inside the window counts
pub in_window_known : (s : Settings) (n : ℕ) → outside s n ≡ false → in_window s (Known n) ≡ Known n
unfolding in_window
in_window_known s n e = rw e

-- a count that passes the window is none or as it was
in_window_by : (P : ℕ → Type 0) (n : ℕ) (b : Bool) → P n → NoneOr P (cond b Unknown (Known n))
in_window_by P n true p = tt
in_window_by P n false p = p

in_window_keeps : (P : ℕ → Type 0) (s : Settings) (c : Count) → NoneOr P c → NoneOr P (in_window s c)
unfolding in_window
in_window_keeps P s (Known n) p = in_window_by P n (outside s n) p
in_window_keeps P s Unknown p = tt

-- the window acts on what was found as on a count of the state
windowed_count : (s : Settings) (f : Finding) → (windowed s f).count ≡ in_window s f.count
unfolding in_window
windowed_count s f = go f.count refl
  where
    by : (n : ℕ) (b : Bool) → f.count ≡ Known n → (cond b (finding OUTSIDE Unknown) f).count ≡ cond b Unknown (Known n)
    by n true e = refl
    by n false e = e

    go : (c : Count) → f.count ≡ c → (windowed_by s f c).count ≡ in_window s c
    go (Known n) e = by n (outside s n) e
    go Unknown e = e

found_count : (t : Table) (s : Settings) (c : Count) (r : Option ℕ) (w : ℕ)
    → (found_by t s c r w).count ≡ in_window s (reached t (in_window s c) (usable r) w).count
unfolding found_by
found_count t s c r w = windowed_count s (reached t (in_window s c) (usable r) w)

usable_word : (w : ℕ) → equal_indicators w ≡ false → usable (Some w) ≡ Some w
unfolding usable
usable_word w e = rw e

plain_word : (w : ℕ) → equal_indicators w ≡ true → usable (Some w) ≡ None
unfolding usable
plain_word w e = rw e

-- Never false: the count is none or the true one, and the remembered word none or the source's word
-- of the frame before, in which the count was old.
pub record Safe (t : Table) (old count : ℕ) (c : Count) (r : Option ℕ) : Type 0 where
  pub count_true : NoneOr (λ (n : ℕ). n ≡ count) c
  pub word_true : (r ≡ None) ⊎ ((r ≡ Some (announced t old count)) × (equal_indicators (announced t old count) ≡ false))

-- a sink that holds neither a count nor a word
pub safe_none : (t : Table) (old count : ℕ) → Safe t old count Unknown None
safe_none t old count = record { count_true = tt; word_true = inl refl }

-- a word that was read is remembered where II ≠ DI
remembered_by : (w : ℕ) (b : Bool) → equal_indicators w ≡ b → (usable (Some w) ≡ None) ⊎ ((usable (Some w) ≡ Some w) × (equal_indicators w ≡ false))
remembered_by w true e = inl (plain_word w e)
remembered_by w false e = inr (usable_word w e, e)

module _ (t : Table) (rule : Rule t) (s : Settings) (fit : Fit s) where
  says : (old next : ℕ) → outside s old ≡ false → outside s next ≡ false → Announces t old next (announced t old next)
  says old next ho hn = announced_says t rule old next (count_lt s old fit ho) (count_lt s next fit hn)

  -- A sink that holds the true count, in step.
  pub follows_true_count : (old next : ℕ) (r : Option ℕ) → outside s old ≡ false → outside s next ≡ false
      → let w = announced t old next in found_by t s (Known old) r w ≡ finding (cond (equal_indicators w) READ TRACKED) (Known next)
  unfolding found_by
  follows_true_count old next r ho hn =
      ap (windowed s)
      (ap (λ (c : Count). reached t c (usable r) (announced t old next)) (in_window_known s old ho)
      ∙ reached_true t rule old next (announced t old next) (usable r) (says old next ho hn))
      ∙ rw hn

  plain_found : (next w : ℕ) (c : Count) (r : Option ℕ) → outside s next ≡ false → Plain next w → (found_by t s c r w).count ≡ Known next
  plain_found next w c r hn p =
      found_count t s c r w
      ∙ ap (λ (f : Finding). in_window s f.count) (reached_plain t (in_window s c) (usable r) w p.equal)
      ∙ ap (λ (n : ℕ). in_window s (Known n)) p.count ∙ in_window_known s next hn

  recover_by : (old mid next v w : ℕ) (c : Count) (r : Option ℕ) → outside s mid ≡ false → outside s next ≡ false
      → Announces t old mid v → Announces t mid next w → (found_by t s (found_by t s c r v).count (usable (Some v)) w).count ≡ Known next
  recover_by old mid next v w c r hm hn g (inl q) = plain_found next w (found_by t s c r v).count (usable (Some v)) hn q
  recover_by old mid next v w c r hm hn (inl p) (inr h) =
      found_count t s (found_by t s c r v).count (usable (Some v)) w
      ∙ ap (λ (x : Count). in_window s (reached t x (usable (usable (Some v))) w).count)
      (ap (in_window s) (plain_found mid v c r hm p) ∙ in_window_known s mid hm)
      ∙ ap (λ (f : Finding). in_window s f.count) (reached_true t rule mid next w (usable (usable (Some v))) (inr h))
      ∙ in_window_known s next hn
  recover_by old mid next v w c r hm hn (inr g) (inr h) =
      found_count t s (found_by t s c r v).count (usable (Some v)) w
      ∙ ap (λ (x : Option ℕ). in_window s (reached t (in_window s (found_by t s c r v).count) x w).count)
      (ap usable (usable_word v g.unequal) ∙ usable_word v g.unequal)
      ∙ ap (in_window s)
      (second_reading t rule old mid next v w g h (in_window s (found_by t s c r v).count)
      (in_window_keeps (PossibleOf t v) s (found_by t s c r v).count
      (subst⁻¹ (NoneOr (PossibleOf t v)) (found_count t s c r v)
      (in_window_keeps (PossibleOf t v) s _ (reached_any t rule (in_window s c) (usable r) v g.unequal)))))
      ∙ in_window_known s next hn

  -- From any state, two words of a source in succession give the source's count.
  pub recovers_in_two : (old mid next : ℕ) (c : Count) (r : Option ℕ) → outside s old ≡ false → outside s mid ≡ false → outside s next ≡ false
      → let v = announced t old mid in (found_by t s (found_by t s c r v).count (usable (Some v)) (announced t mid next)).count ≡ Known next
  recovers_in_two old mid next c r ho hm hn =
      recover_by old mid next (announced t old mid) (announced t mid next) c r hm hn (says old mid ho hm) (says mid next hm hn)

  -- a count from the true one, and one from the true word, is the next true one
  from_safe : (mid next w : ℕ) (c : Count) → Changes t mid next w → NoneOr (λ (n : ℕ). n ≡ mid) c → NoneOr (λ (n : ℕ). n ≡ next) (from_count t c w)
  from_safe mid next w (Known n) h p =
      subst⁻¹ (NoneOr (λ (n : ℕ). n ≡ next)) (ap (λ (m : ℕ). from_count t (Known m) w) p ∙ from_true t rule mid next w h) refl
  from_safe mid next w Unknown h p = tt

  word_safe : (old mid next v w : ℕ) (r : Option ℕ) → Changes t mid next w → Announces t old mid v
      → (r ≡ None) ⊎ ((r ≡ Some v) × (equal_indicators v ≡ false)) → NoneOr (λ (n : ℕ). n ≡ next) (from_word t (usable r) w)
  unfolding usable
  word_safe old mid next v w r h g (inl e) = rw e tt
  word_safe old mid next v w r h (inl p) (inr (e, u)) = absurd (true≢false (sym p.equal ∙ u))
  word_safe old mid next v w r h (inr g) (inr (e, u)) =
      subst⁻¹ (NoneOr (λ (n : ℕ). n ≡ next))
      (ap (λ (q : Option ℕ). from_word t q w) (ap usable e ∙ usable_word v u) ∙ word_true t rule old mid next v w g h) refl

  safe_by : (old mid next v w : ℕ) (c : Count) (r : Option ℕ) → outside s next ≡ false → NoneOr (λ (n : ℕ). n ≡ mid) c
      → (r ≡ None) ⊎ ((r ≡ Some v) × (equal_indicators v ≡ false)) → Announces t old mid v → Announces t mid next w
      → NoneOr (λ (n : ℕ). n ≡ next) (found_by t s c r w).count
  safe_by old mid next v w c r hn p q g (inl h) = subst⁻¹ (NoneOr (λ (n : ℕ). n ≡ next)) (plain_found next w c r hn h) refl
  safe_by old mid next v w c r hn p q g (inr h) =
      subst⁻¹ (NoneOr (λ (n : ℕ). n ≡ next)) (found_count t s c r w)
      (in_window_keeps (λ (n : ℕ). n ≡ next) s _
      (subst⁻¹ (NoneOr (λ (n : ℕ). n ≡ next)) (count_usable t (in_window s c) (usable r) w h.unequal)
      (or_else_keeps (λ (n : ℕ). n ≡ next) (from_count t (in_window s c) w) (from_word t (usable r) w)
      (from_safe mid next w (in_window s c) h (in_window_keeps (λ (n : ℕ). n ≡ mid) s c p))
      (word_safe old mid next v w r h g q))))

  -- A sink that is never false stays so along the words of a source.
  pub stays_safe : (old mid next : ℕ) (c : Count) (r : Option ℕ) → outside s old ≡ false → outside s mid ≡ false → outside s next ≡ false
      → Safe t old mid c r → let w = announced t mid next in Safe t mid next (found_by t s c r w).count (usable (Some w))
  stays_safe old mid next c r ho hm hn safe =
      record {
        count_true = safe_by old mid next (announced t old mid) (announced t mid next) c r hn safe.count_true safe.word_true
            (says old mid ho hm) (says mid next hm hn);
        word_true = remembered_by (announced t mid next) (equal_indicators (announced t mid next)) refl;
      }

-- of two possible counts only one number is continued
continues_one : (t : Table) → Rule t → ContinuesOne t
continues_one t rule before f bits g a b hf hg ea eb =
    let e : Known a ≡ Known b = sym ea ∙ ap (λ (c : ℕ). tracked t c bits g) (sym (one_continued t rule before f bits g hf hg a b ea eb)) ∙ eb in cc

-- every table that keeps the rule serves
pub tables_serve : TablesServe
tables_serve =
    record {
      every = λ t rule. (λ s fit. follows_true_count t rule s fit, λ s fit. recovers_in_two t rule s fit, continues_one t rule);
      paper = standard_rule;
    }
