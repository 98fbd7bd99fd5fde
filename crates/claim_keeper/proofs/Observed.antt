-- Observed calls of the keeper go as the definitions go. Assumes nothing.
use mathlib.Core.Path.{◌≡◌, refl, ap, ◌∙◌, subst}
use mathlib.Core.List.{List, [], ◌∷◌, ◌++◌}
use Prim.Native.Nat.{ℕ}
use native.Mathlib.Omega.{arith}
use Rattle.refusals.specs.Table.{accepts}
use Rattle.gmp_keeper.specs.Keeper.{Kept, answer_meaning, result_meaning, keeper_call, first_remainder}
use Rattle.gmp_keeper.specs.Sum.{answered, given, counts_from, SharedRate}
use Rattle.gmp_keeper.proofs.Sum.{counts_add_up, totals_are_nearest}
use Rattle.claim_keeper.specs.Observed.{KeeperSeen, Passed, SharedSeen, calls_of, counts_of, ObservedCounts}

-- what an observed call answered is what the definition answers from the remainder of the chain
answered_is : (r : ℕ) (x : KeeperSeen) → x.r ≡ r → result_meaning x.result ≡ answered x.call r
answered_is r x e = x.kept ∙ ap (keeper_call x.call.settings x.call.p x.call.q) e

counts_are : (r : ℕ) (seen : List KeeperSeen) → Passed r seen → counts_of seen ≡ counts_from r (calls_of seen)
unfolding counts_from
counts_are r [] h = refl
counts_are r (x ∷ xs) h =
    ap (λ (l : List ℕ). given (answer_meaning x.result.answer) ++ l) (counts_are x.result.remainder xs h.1)
    ∙ ap (λ (k : Kept). given k.answer ++ counts_from k.remainder (calls_of xs)) (answered_is r x h.0)

shared_is : (p q r : ℕ) (seen : List KeeperSeen) → Passed r seen → SharedSeen p q seen → SharedRate p q r (calls_of seen)
unfolding SharedRate
shared_is p q r [] h s = tt
shared_is p q r (x ∷ xs) h s =
    let e = answered_is r x h.0 in (
      (λ a. s.0 (ap (λ (k : Kept). accepts k.answer) e ∙ a)),
      subst (λ (k : Kept). SharedRate p q k.remainder (calls_of xs)) e (shared_is p q x.result.remainder xs h.1 s.1),
    )

pub observed_counts : ObservedCounts
observed_counts =
    record {
      as_defined = counts_are;
      from_any = λ p q r h seen passed s.
          rw (counts_are r seen passed) (counts_add_up.from_any p q r h (calls_of seen) (shared_is p q r seen passed s));
      new = λ p q seen h passed s.
          rw (counts_are (first_remainder q) seen passed)
          (counts_add_up.new p q (calls_of seen) h (shared_is p q (first_remainder q) seen passed s));
      nearest = λ p q seen h passed s.
          let n = totals_are_nearest.total p q (calls_of seen) h (shared_is p q (first_remainder q) seen passed s) in
          rw (counts_are (first_remainder q) seen passed) (record { above = omega arith; below = omega arith });
    }
