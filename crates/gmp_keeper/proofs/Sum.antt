-- The sum of a keeper's counts. Over any list of calls q times the sum and the last remainder are
-- what came in: the first remainder, and p for each count given. From half of q on that is rounding
-- to the nearest. Assumes nothing.
use mathlib.Core.Path.{◌≡◌, refl, sym, ap, ◌∙◌, subst}
use mathlib.Core.Bool.{Bool, true, false, true≢false}
use mathlib.Core.List.{List, [], ◌∷◌, ◌++◌}
use Prim.Native.Nat.{ℕ, ◌+◌, ◌*◌, ◌/◌, ◌%◌, ◌<◌}
use native.Mathlib.Nat.{add-mul, mul_comm, suc-mul, zero-mul, div-add-mod', mod-lt}
use native.Mathlib.Omega.{arith}
use lib.Dec.{eqb}
use lib.ListN.{length}
use borrow.Author.Tests.{eqb-true, eqb-false}
use Rattle.refusals.specs.Table.{accepted, accepts}
use Rattle.gmp_settings.specs.Settings.{outside}
use Rattle.gmp_keeper.specs.Keeper.{Kept, keeper_refusal, first_remainder}
use Rattle.gmp_keeper.specs.Sum.{KeeperCall, answered, given, counts_from, SharedRate, sum, CountsAddUp}
use Rattle.gmp_keeper.specs.Nearest.{Nearest, TotalsAreNearest}
use Rattle.gmp_keeper.proofs.Laws.{accepted_knows, count_inside, call_accepted, call_refused}
use Rattle.gmp_keeper.proofs.Nearest.{whole_part, half_rounds, nearest_is, start, only, no_nearer, halves_up}

-- the last remainder, with what is known of it
record Balance (p q r : ℕ) (counts : List ℕ) : Type 0 where
  last : ℕ
  below : last < q
  same : sum counts * q + last ≡ r + length counts * p

-- one more count in front
more : (p q r : ℕ) (counts : List ℕ) → Balance p q ((r + p) % q) counts → Balance p q r ((r + p) / q ∷ counts)
unfolding sum
more p q r counts b =
    record {
      last = b.last;
      below = b.below;
      same = omega (arith, b.same, add-mul ((r + p) / q) (sum counts) q, div-add-mod' (r + p) q, suc-mul (length counts) p);
    }

balance : (p q r : ℕ) → r < q → (calls : List KeeperCall) → SharedRate p q r calls → Balance p q r (counts_from r calls)
unfolding counts_from SharedRate sum
balance p q r h [] shared = record { last = r; below = h; same = omega (arith, zero-mul q, zero-mul p) }
balance p q r h (c ∷ cs) shared =
    by (eqb n 0) refl (λ e. balance p q ((r + p) % q) (mod-lt (r + p) (omega arith)) cs e) (λ e. balance p q r h cs e)
  where
    n : ℕ
    n = keeper_refusal c.settings c.p c.q r

    by : (b : Bool) → eqb (keeper_refusal c.settings c.p c.q r) 0 ≡ b
        → (SharedRate p q ((r + p) % q) cs → Balance p q ((r + p) % q) (counts_from ((r + p) % q) cs))
        → (SharedRate p q r cs → Balance p q r (counts_from r cs)) → Balance p q r (counts_from r (c ∷ cs))
    by true t later same =
        let z = eqb-true (keeper_refusal c.settings c.p c.q r) 0 t in
        let k = call_accepted c.settings c.p c.q r z in
        let pq = shared.0 (ap (λ (x : Kept). accepts x.answer) k) in
        let k' : answered c r ≡ record { answer = accepted ((r + p) / q); remainder = (r + p) % q } =
        k ∙ ap (λ (x : ℕ). record { answer = accepted ((r + x) / c.q); remainder = (r + x) % c.q }) pq.0
        ∙ ap (λ (x : ℕ). record { answer = accepted ((r + p) / x); remainder = (r + p) % x }) pq.1 in
        subst (Balance p q r) (sym (ap (λ (x : Kept). given x.answer ++ counts_from x.remainder cs) k'))
        (more p q r (counts_from ((r + p) % q) cs) (later (subst (λ (x : ℕ). SharedRate p q x cs) (ap (λ (x : Kept). x.remainder) k') shared.1)))
    by false t later same =
        let k = call_refused c.settings c.p c.q r (eqb-false (keeper_refusal c.settings c.p c.q r) 0 t) in
        subst (Balance p q r) (sym (ap (λ (x : Kept). given x.answer ++ counts_from x.remainder cs) k))
        (same (subst (λ (x : ℕ). SharedRate p q x cs) (ap (λ (x : Kept). x.remainder) k) shared.1))

-- the sum of a new keeper, which begins below q
total : (p q : ℕ) (calls : List KeeperCall) → 0 < q → SharedRate p q (first_remainder q) calls
    → Nearest (length (counts_from (first_remainder q) calls)) p q (sum (counts_from (first_remainder q) calls))
total p q calls pos shared =
    let counts : List ℕ = counts_from (first_remainder q) calls in
    let b = balance p q (first_remainder q) (omega arith) calls shared in
    half_rounds (length counts) p q (sum counts) b.last b.below (omega (arith, b.same, mul_comm q (sum counts)))

in_window : (c : KeeperCall) (r n : ℕ) → (answered c r).answer ≡ accepted n → outside c.settings n ≡ false
in_window c r n e = by (eqb (keeper_refusal c.settings c.p c.q r) 0) refl
  where
    by : (b : Bool) → eqb (keeper_refusal c.settings c.p c.q r) 0 ≡ b → outside c.settings n ≡ false
    by true t =
        let z = eqb-true (keeper_refusal c.settings c.p c.q r) 0 t in
        let k : accepted ((r + c.p) / c.q) ≡ accepted n =
        sym (ap (λ (x : Kept). x.answer) (call_accepted c.settings c.p c.q r z)) ∙ e in
        let m : (r + c.p) / c.q ≡ n = cc in
        subst (λ (x : ℕ). outside c.settings x ≡ false) m
        (count_inside c.settings c.p c.q r (accepted_knows c.settings c.p c.q r z))
    by false t =
        let k =
        sym (ap (λ (x : Kept). accepts x.answer)
        (call_refused c.settings c.p c.q r (eqb-false (keeper_refusal c.settings c.p c.q r) 0 t))) ∙ ap accepts e in
        absurd (true≢false (sym k))

pub counts_add_up : CountsAddUp
counts_add_up =
    record {
      from_any = λ p q r h calls shared.
          let b = balance p q r h calls shared in
          let S : ℕ = sum (counts_from r calls) in
          sym (whole_part _ _ S (omega (arith, b.same, mul_comm q S)) (omega (arith, b.same, b.below, mul_comm q S)));
      start = start;
      new = λ p q calls pos shared. sym (nearest_is _ p q _ (total p q calls pos shared));
      in_window = in_window;
    }

pub totals_are_nearest : TotalsAreNearest
totals_are_nearest =
    record {
      total = total;
      only = only;
      no_nearer = no_nearer;
      halves_up = λ t p q T U n same. omega (arith, halves_up t p q T U n same);
    }
