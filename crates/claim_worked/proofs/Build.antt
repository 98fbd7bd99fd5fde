-- The hypotheses of demand 3 from lists that compute. Assumes nothing.
use mathlib.Core.Path.{◌≡◌, refl, subst}
use mathlib.Core.Bool.{Bool, true, false, ◌||◌, ◌&&◌}
use mathlib.Core.List.{List, [], ◌∷◌}
use Prim.Native.Nat.{ℕ, zero, suc, ◌+◌, ◌*◌, ◌-◌, ◌≤◌}
use native.Mathlib.Omega.{arith}
use lib.Dec.{T, eqb, eqb→eq}
use lib.ListN.{length, get_or, drop}
use borrow.Author.Tests.{ne_eqb}
use Rattle.math.proofs.Finite.{both_left, both_right}
use Rattle.gmp_settings.specs.declared.Settings.{Settings}
use Rattle.gmp_frame.specs.Frame.{OthersSame}
use Rattle.gmp_sink.specs.declared.SinkState.{SinkState}
use Rattle.claim_recovery.specs.Runs.{At, Nth, SinkCall, SourceStep, SinkStep, sink_steps}
use Rattle.claim_recovery.specs.Demand.{Reads}
use Rattle.claim_recovery.proofs.Lists.{Each, at_drop, at_nth}

abbrev pub All : {A : Type 0} → (A → Type 0) → List A → Type 0
All P [] = Unit {0}
All P (x ∷ l) = P x × All P l

pub all_nth : {A : Type 0} (P : A → Type 0) (l : List A) → All P l → (i : ℕ) (x : A) → Nth l i x → P x
all_nth P l h zero x p = absurd p
all_nth P [] h (suc i) x p = absurd p
all_nth P (y ∷ l) h (suc zero) x p = subst P p h.0
all_nth P (y ∷ l) h (suc (suc i)) x p = all_nth P l h.1 (suc i) x p

each_lent : {A B : Type 0} (R : A → B → Type 0) (xs : List A) (ys : List B) → Each R xs ys → (i : ℕ) (y : B) → At ys i y → (x : A) × At xs i x × R x y
each_lent R xs [] r i y p = absurd p
each_lent R [] (z ∷ ys) r i y p = absurd r
each_lent R (x ∷ xs) (z ∷ ys) r zero y p = (x, refl, subst (R x) p r.0)
each_lent R (x ∷ xs) (z ∷ ys) r (suc i) y p = each_lent R xs ys r.1 i y p

pub reads_by : (s : Settings) (sent : List SourceStep) (Lent : SourceStep → SinkStep → Type 0) (m n : ℕ) (z : SinkState) (calls : List SinkCall) → 1 ≤ m
    → All (λ (y : SinkStep). y.call.settings ≡ s) (sink_steps z calls) → Each Lent (drop (m - 1) sent) (sink_steps z calls) → m + length (sink_steps z calls) ≡ n + 1
    → Reads s sent Lent m n z calls
reads_by s sent Lent m n z calls one sh r l =
    record {
      from = one;
      shared = all_nth (λ (y : SinkStep). y.call.settings ≡ s) (sink_steps z calls) sh;
      lent = lent;
      up_to = l;
    }
  where
    lent : (j : ℕ) (y : SinkStep) → Nth (sink_steps z calls) j y → (x : SourceStep) × Nth sent (m + j - 1) x × Lent x y
    lent zero y p = absurd p
    lent (suc i) y p =
        let h = each_lent Lent (drop (m - 1) sent) (sink_steps z calls) r i y p in
        (h.0, at_nth sent (m + suc i - 1) (m - 1 + i) h.0 (omega arith) (at_drop sent (m - 1) i (m - 1 + i) h.0 refl h.1), h.2)

-- two frames with the same bytes, JC1 to JC3 apart, by a test from place p on
abbrev pub others_test : ℕ → ℕ → List ℕ → List ℕ → Bool
others_test k p [] [] = true
others_test k p [] (y ∷ l') = false
others_test k p (x ∷ l) [] = false
others_test k p (x ∷ l) (y ∷ l') = (eqb p 1 || (eqb p (k + 3) || (eqb p (2 * k + 5) || eqb x y))) && others_test k (suc p) l l'

one_of : (k p x y : ℕ) → T (eqb p 1 || (eqb p (k + 3) || (eqb p (2 * k + 5) || eqb x y))) → (p ≡ 1 → ⊥) → (p ≡ k + 3 → ⊥) → (p ≡ 2 * k + 5 → ⊥) → x ≡ y
one_of k p x y t a b c =
    eqb→eq x y (rw (ne_eqb p (2 * k + 5) c) at (rw (ne_eqb p (k + 3) b) at (rw (ne_eqb p 1 a) at t)))

others_from : (k p : ℕ) (l l' : List ℕ) → T (others_test k p l l') → (i : ℕ) → (p + i ≡ 1 → ⊥) → (p + i ≡ k + 3 → ⊥) → (p + i ≡ 2 * k + 5 → ⊥) → get_or l i 0 ≡ get_or l' i 0
others_from k p [] [] t i a b c = refl
others_from k p [] (y ∷ l') t i a b c = absurd t
others_from k p (x ∷ l) [] t i a b c = absurd t
others_from k p (x ∷ l) (y ∷ l') t zero a b c =
    one_of k p x y (both_left (eqb p 1 || (eqb p (k + 3) || (eqb p (2 * k + 5) || eqb x y))) (others_test k (suc p) l l') t)
    (λ e. a (omega arith)) (λ e. b (omega arith)) (λ e. c (omega arith))
others_from k p (x ∷ l) (y ∷ l') t (suc i) a b c =
    others_from k (suc p) l l' (both_right (eqb p 1 || (eqb p (k + 3) || (eqb p (2 * k + 5) || eqb x y))) (others_test k (suc p) l l') t) i
    (λ e. a (omega arith)) (λ e. b (omega arith)) (λ e. c (omega arith))

pub others_by : (k : ℕ) (l l' : List ℕ) → T (others_test k 0 l l') → OthersSame k l l'
others_by k l l' t i a b c = others_from k 0 l l' t i (λ e. a (omega arith)) (λ e. b (omega arith)) (λ e. c (omega arith))
