-- What two words of a source in succession lead to, for every table that keeps the rule. Sign 0 is
-- plus, 1 is minus. Assumes nothing.
use mathlib.Core.Path.{◌≡◌, refl, sym, ap, ap₂, ◌∙◌}
use mathlib.Core.Logic.{◌⊎◌, inl, inr, ⊎_elim, ⊎_map}
use mathlib.Core.Bool.{Bool, true, false, cond}
use Prim.Native.Nat.{ℕ, zero, suc, ◌+◌, ◌%◌, ◌<◌}
use native.Mathlib.Nat.{not-suc-le-zero, le_of_suc-le-suc}
use native.Mathlib.Omega.{arith}
use lib.Dec.{eqb}
use lib.Bits.{bit_xor, xor_comm, xor_self}
use borrow.Author.Tests.{eqb-true, eq-eqb, ne_eqb}
use Rattle.math.proofs.Xor.{xor_undo, xor_undo_l, xor_assoc}
use Rattle.gmp_standing.specs.declared.Count.TheVariants.{Known, Unknown}
use Rattle.gmp_control.specs.Word.{moved}
use Rattle.gmp_control.specs.Pattern.{Table, Rule, pattern_at, change_at}
use Rattle.gmp_control.specs.Follow.{tracked, candidate, or_else, paired}
use Rattle.gmp_control.proofs.Parity.{OneOf, only}

-- k is a change of the sign g
abbrev pub Of : ℕ → ℕ → Type 0
Of g k = (k ≡ g) ⊎ (k ≡ g + 2)

-- the count bits that a source of count old sends for its k-th change, and its count after that
abbrev pub sent : Table → ℕ → ℕ → ℕ
sent t old k = bit_xor old (pattern_at t k)

abbrev pub after : ℕ → ℕ → ℕ
after old k = moved old (change_at k)

-- the changes of a sign: one is odd, the other even
sign_odd : (g : ℕ) → g < 2 → (change_at g + change_at (g + 2)) % 2 ≡ 1
sign_odd zero h = refl
sign_odd (suc zero) h = refl
sign_odd (suc (suc s)) h = absurd (not-suc-le-zero (le_of_suc-le-suc (le_of_suc-le-suc h)))

-- the count bits exclusive-or the old count are the pattern
true_pattern : (old q : ℕ) → bit_xor (bit_xor old q) old ≡ q
true_pattern old q = xor_comm (bit_xor old q) old ∙ xor_undo_l old q

known_is_not_unknown : (n : ℕ) → Known n ≡ Unknown → ⊥
known_is_not_unknown n e = let z : ◌≡◌ {A = ℕ} 0 1 = cc in omega arith

-- c is one of the two possible counts of a word
abbrev pub Possible : Table → ℕ → ℕ → ℕ → Type 0
Possible t bits g c = (c ≡ candidate t bits g) ⊎ (c ≡ candidate t bits (g + 2))

module _ (t : Table) (rule : Rule t) where
  -- the bits in which the two patterns of a sign differ
  swap : ℕ
  swap = bit_xor (pattern_at t 0) (pattern_at t 2)

  sign_swap : (g : ℕ) → g < 2 → bit_xor (pattern_at t g) (pattern_at t (g + 2)) ≡ swap
  unfolding swap
  sign_swap zero h = refl
  sign_swap (suc zero) h = sym rule.same
  sign_swap (suc (suc s)) h = absurd (not-suc-le-zero (le_of_suc-le-suc (le_of_suc-le-suc h)))

  -- x is a pattern of the sign
  abbrev Signed : ℕ → ℕ → Type 0
  Signed g x = OneOf (pattern_at t g) (pattern_at t (g + 2)) x

  other_pattern : (g : ℕ) → g < 2 → pattern_at t (g + 2) ≡ pattern_at t g → ⊥
  unfolding swap
  other_pattern g h e = rule.differ (sym (sign_swap g h) ∙ ap (bit_xor (pattern_at t g)) e ∙ xor_self (pattern_at t g))

  -- a true count is tracked to the next
  pub tracked_true : (c g k : ℕ) → g < 2 → Of g k → tracked t c (sent t c k) g ≡ Known (after c k)
  unfolding tracked
  tracked_true c g k h (inl e) = rw (e, true_pattern c (pattern_at t g)) (simp (eq-eqb (pattern_at t g) (pattern_at t g) refl))
  tracked_true c g k h (inr e) =
      rw (e, true_pattern c (pattern_at t (g + 2)))
      (simp (ne_eqb (pattern_at t (g + 2)) (pattern_at t g) (other_pattern g h), eq-eqb (pattern_at t (g + 2)) (pattern_at t (g + 2)) refl))

  -- a count leads nowhere, or the word's bits exclusive-or it are a pattern of the sign
  tracked_cases : (f bits g : ℕ) → (tracked t f bits g ≡ Unknown) ⊎ Signed g (bit_xor bits f)
  unfolding tracked
  tracked_cases f bits g = go (eqb x a) (eqb x b) refl refl
    where
      x : ℕ
      x = bit_xor bits f

      a : ℕ
      a = pattern_at t g

      b : ℕ
      b = pattern_at t (g + 2)

      go : (p q : Bool) → eqb x a ≡ p → eqb x b ≡ q
          → (cond (eqb x a) (Known (moved f (change_at g))) (cond (eqb x b) (Known (moved f (change_at (g + 2)))) Unknown) ≡ Unknown) ⊎ Signed g x
      go true q e o = inr (inl (eqb-true x a e))
      go false true e o = inr (inr (eqb-true x b o))
      go false false e o = inl (simp (e, o))

  -- two changes of a sign are the same, or their patterns differ in the swapped bits and one of
  -- them is odd
  same_or_other : (g j i : ℕ) → g < 2 → Of g j → Of g i
      → (j ≡ i) ⊎ ((bit_xor (pattern_at t j) (pattern_at t i) ≡ swap) × ((change_at j + change_at i) % 2 ≡ 1))
  same_or_other g j i h (inl a) (inl b) = inl (a ∙ sym b)
  same_or_other g j i h (inl a) (inr b) = inr (rw (a, b) (sign_swap g h, sign_odd g h))
  same_or_other g j i h (inr a) (inl b) =
      inr (rw (a, b) (xor_comm (pattern_at t (g + 2)) (pattern_at t g) ∙ sign_swap g h, omega (arith, sign_odd g h)))
  same_or_other g j i h (inr a) (inr b) = inl (a ∙ sym b)

  pattern_of : (g k : ℕ) → Of g k → Signed g (pattern_at t k)
  pattern_of g k (inl e) = inl (ap (pattern_at t) e)
  pattern_of g k (inr e) = inr (ap (pattern_at t) e)

  -- any count that a word leads to, from any count, is one of the word's two possible counts
  pub reached_possible : (c bits g n : ℕ) → tracked t c bits g ≡ Known n → Possible t bits g n
  unfolding tracked candidate
  reached_possible c bits g n = go (eqb x (pattern_at t g)) (eqb x (pattern_at t (g + 2))) refl refl
    where
      x : ℕ
      x = bit_xor bits c

      from : (k : ℕ) → x ≡ pattern_at t k → moved c (change_at k) ≡ moved (bit_xor bits (pattern_at t k)) (change_at k)
      from k e = ap (λ (y : ℕ). moved y (change_at k)) (sym (xor_undo_l bits c) ∙ ap (bit_xor bits) e)

      go : (p q : Bool) → eqb x (pattern_at t g) ≡ p → eqb x (pattern_at t (g + 2)) ≡ q
          → cond p (Known (moved c (change_at g))) (cond q (Known (moved c (change_at (g + 2)))) Unknown) ≡ Known n
          → (n ≡ moved (bit_xor bits (pattern_at t g)) (change_at g)) ⊎ (n ≡ moved (bit_xor bits (pattern_at t (g + 2))) (change_at (g + 2)))
      go true q a b e = inl (let d : moved c (change_at g) ≡ n = cc in sym d ∙ from g (eqb-true x (pattern_at t g) a))
      go false true a b e = inr (let d : moved c (change_at (g + 2)) ≡ n = cc in sym d ∙ from (g + 2) (eqb-true x (pattern_at t (g + 2)) b))
      go false false a b e = let z : ◌≡◌ {A = ℕ} 0 1 = cc in absurd (omega arith)

  -- a word of sign g leads the count c nowhere, or to n
  Leads : ℕ → ℕ → ℕ → ℕ → Type 0
  Leads c bits g n = (tracked t c bits g ≡ Unknown) ⊎ (tracked t c bits g ≡ Known n)

  -- A source of count old sends change j of sign s and then change k of sign g.
  module _ (old s j g k : ℕ) (hs : s < 2) (hg : g < 2) (hj : Of s j) (hk : Of g k) where
    -- the second word leads a possible count of the first nowhere, or to the source's count
    each : (i : ℕ) → Of s i → Leads (candidate t (sent t old j) i) (sent t (after old j) k) g (after (after old j) k)
    unfolding candidate Leads
    each i hi = go (same_or_other s j i hs hj hi)
      where
        go : (j ≡ i) ⊎ ((bit_xor (pattern_at t j) (pattern_at t i) ≡ swap) × ((change_at j + change_at i) % 2 ≡ 1))
            → Leads (candidate t (sent t old j) i) (sent t (after old j) k) g (after (after old j) k)
        go (inl e) = inr (rw (← e, xor_undo old (pattern_at t j)) (tracked_true (after old j) g k hg hk))
        go (inr (d, o)) =
            rw (xor_assoc old (pattern_at t j) (pattern_at t i), d)
            (⊎_map (λ e. e)
            (λ c. rw (only _ _ swap (sign_swap g hg) old (change_at j) (change_at i) (pattern_at t k) _ o (pattern_of g k hk) c refl)
            (tracked_true (after old j) g k hg hk))
            (tracked_cases (moved (bit_xor old swap) (change_at i)) (sent t (after old j) k) g))

    -- the possible count of the change that was made leads to the source's count
    made : tracked t (candidate t (sent t old j) j) (sent t (after old j) k) g ≡ Known (after (after old j) k)
    unfolding candidate
    made = rw (xor_undo old (pattern_at t j)) (tracked_true (after old j) g k hg hk)

    -- so both words together lead to the source's count
    pub paired_true : paired t (sent t old j) s (sent t (after old j) k) g ≡ Known (after (after old j) k)
    unfolding paired Leads
    paired_true = go hj (each s (inl refl))
      where
        go : Of s j → Leads (candidate t (sent t old j) s) (sent t (after old j) k) g (after (after old j) k)
            → or_else (tracked t (candidate t (sent t old j) s) (sent t (after old j) k) g)
            (tracked t (candidate t (sent t old j) (s + 2)) (sent t (after old j) k) g)
            ≡ Known (after (after old j) k)
        go (inl e) l = rw (← e, made)
        go (inr e) (inl l) = rw l (rw (← e) made)
        go (inr e) (inr l) = rw l

    -- and whichever possible count the first word led to, the second leads it nowhere or to the
    -- source's count
    pub possible_leads : (c : ℕ) → Possible t (sent t old j) s c
        → (tracked t c (sent t (after old j) k) g ≡ Unknown) ⊎ (tracked t c (sent t (after old j) k) g ≡ Known (after (after old j) k))
    unfolding Leads
    possible_leads c h = ⊎_elim (λ e. rw e (each s (inl refl))) (λ e. rw e (each (s + 2) (inr refl))) h

  -- Of the two possible counts of any word v, whoever wrote it, another word continues at most one,
  -- unless they are the same number.
  module _ (v f bits g : ℕ) (hf : f < 2) (hg : g < 2) where
    old : ℕ
    old = bit_xor v (pattern_at t f)

    -- the other possible count, over the same number
    other_is : candidate t v (f + 2) ≡ moved (bit_xor old swap) (change_at (f + 2))
    unfolding candidate old
    other_is =
        ap (λ (x : ℕ). moved x (change_at (f + 2)))
        (sym (ap (bit_xor (bit_xor v (pattern_at t f))) (sym (sign_swap f hf)) ∙ xor_assoc v (pattern_at t f) (bit_xor (pattern_at t f) (pattern_at t (f + 2)))
        ∙ ap (bit_xor v) (xor_undo_l (pattern_at t f) (pattern_at t (f + 2)))))

    continued_pattern : (c n : ℕ) → tracked t c bits g ≡ Known n → Signed g (bit_xor bits c)
    continued_pattern c n e = ⊎_elim (λ none. absurd (known_is_not_unknown n (sym e ∙ none))) (λ h. h) (tracked_cases c bits g)

    pub one_continued : (a b : ℕ) → tracked t (candidate t v f) bits g ≡ Known a → tracked t (candidate t v (f + 2)) bits g ≡ Known b
        → candidate t v (f + 2) ≡ candidate t v f
    unfolding candidate old
    one_continued a b ea eb =
        let c : ℕ = candidate t v f in
        let back : bit_xor c (bit_xor bits c) ≡ bits = ap (bit_xor c) (xor_comm bits c) ∙ xor_undo_l c bits in
        let o = other_is in
        o
        ∙ only _ _ swap (sign_swap g hg) old (change_at f) (change_at (f + 2)) (bit_xor bits c) (bit_xor bits (candidate t v (f + 2))) (sign_odd f hf)
        (continued_pattern c a ea) (continued_pattern (candidate t v (f + 2)) b eb) (ap₂ bit_xor back (sym o))
