-- How a function that judges a call is proved, line by line, and what a call knows that no line
-- turned back. Assumes nothing.
use mathlib.Core.Path.{◌≡◌, refl, sym, ap₂, ◌∙◌}
use mathlib.Core.Bool.{Bool, true, false, cond}
use mathlib.Core.List.{List, [], ◌∷◌, ◌++◌}
use Prim.Native.Nat.{ℕ, ◌<◌}
use native.Mathlib.Omega.{arith}
use lib.Dec.{ltb}
use borrow.Author.Tests.{ltb-true, ne_eqb}
use Rattle.math.proofs.Choice.{both_true}
use Rattle.refusals.specs.Table.{Reason, reason, lowest, ascending, with_line}

-- where no line applies, the first does not, nor any after it
pub none_applies : (n : ℕ) (applies : Bool) (rest : ℕ) → 0 < n → cond applies n rest ≡ 0 → (applies ≡ false) × (rest ≡ 0)
none_applies n true rest h e = absurd (omega arith)
none_applies n false rest h e = (refl, e)

-- a table with one more line at its end
one_more : (n : ℕ) (lines : List Reason) (r : Reason) → ascending n lines ≡ true → lowest (lines ++ (r ∷ [])) ≡ with_line (lowest lines) r
one_more n [] r up = refl
one_more n (l ∷ lines) r up =
    let u = both_true (ltb n l.number) (ascending l.number lines) up in
    let h : n < l.number = ltb-true n l.number u.0 in
    by l.applies (omega arith) (one_more l.number lines r u.1)
  where
    by : (t : Bool) → 0 < l.number → lowest (lines ++ (r ∷ [])) ≡ with_line (lowest lines) r
        → cond t l.number (lowest (lines ++ (r ∷ []))) ≡ with_line (cond t l.number (lowest lines)) r
    by true pos later = rw (ne_eqb l.number 0 (λ e. omega arith))
    by false pos later = later

-- The law by which a judge is proved, line by line. So far it answered by these lines, which stand
-- in ascending order;
pub record Judged (answer : ℕ) (lines : List Reason) : Type 0 where
  pub by : answer ≡ lowest lines
  pub up : ascending 0 lines ≡ true

-- it goes on to the line with the number n, tests its condition, and answers by all of them.
pub line : {before after : ℕ} {lines : List Reason} {tested : Bool} → Judged before lines → (n : ℕ) (condition : Bool) → ascending 0 (lines ++ (reason n condition ∷ [])) ≡ true
    → tested ≡ condition → after ≡ with_line before (reason n tested) → Judged after (lines ++ (reason n condition ∷ []))
line {lines = lines} so_far n condition up same more =
    record {
      by = more ∙ ap₂ (λ (m : ℕ) (b : Bool). with_line m (reason n b)) so_far.by same ∙ sym (one_more 0 lines (reason n condition) so_far.up);
      up = up;
    }
