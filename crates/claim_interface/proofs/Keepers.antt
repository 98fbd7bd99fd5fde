-- The keeper's calls, as a caller of the C interface sees them. Assumes nothing.
use mathlib.Core.Path.{◌≡◌, refl, sym, ap, ◌∙◌, subst}
use mathlib.Core.Bool.{Bool, true, false, true≢false, cond}
use mathlib.Core.List.{List, [], ◌∷◌, ◌++◌}
use Prim.Native.Nat.{ℕ, ◌+◌, ◌/◌, ◌<◌}
use lib.Dec.{eqb}
use lib.ListN.{length}
use Rattle.refusals.specs.Table.{accepted, refused, accepts}
use Rattle.gmp_keeper.specs.Keeper.{keeper_refusal, keeper_call, first_remainder}
use Rattle.gmp_keeper.specs.Sum.{answered, given, counts_from, SharedRate, sum}
use Rattle.gmp_keeper.specs.Nearest.{Nearest}
use Rattle.gmp_keeper.proofs.Sum.{totals_are_nearest}
use Rattle.c_settings.specs.Numbers.{settings_from}
use Rattle.c_keeper.specs.declared.KeeperReply.{KeeperReply}
use Rattle.c_keeper.specs.Numbers.{keeper_reply}
use Rattle.claim_interface.specs.Observed.{KeeperGiven, KeeperSeen, KeeperPassed, KeeperShares, keeper_of, keeper_calls, keeper_counts, keeper_given}

-- a reply tells the count of a call that no number turns back
abbrev told : KeeperReply → List ℕ
told r = cond (eqb r.refusal 0) (r.count ∷ []) []

module _ (n count r : ℕ) where
  told_by : (b : Bool) → eqb n 0 ≡ b → told (keeper_reply (record { answer = cond b (accepted count) (refused n); remainder = r })) ≡ given (cond b (accepted count) (refused n))
  told_by true e = refl
  told_by false e = rw e

  refusal_by : (b : Bool) → eqb n 0 ≡ b → accepts (cond b (accepted count) (refused n)) ≡ true
      → (keeper_reply (record { answer = cond b (accepted count) (refused n); remainder = r })).refusal ≡ 0
  refusal_by true e a = refl
  refusal_by false e a = absurd (true≢false (sym a))

-- what the definition answers from the remainder of the chain
module _ (r : ℕ) (x : KeeperSeen) (e : x.remainder ≡ r) where
  reply_is : x.reply ≡ keeper_reply (answered (keeper_of x.given) r)
  reply_is = x.kept ∙ ap (λ (q : ℕ). keeper_reply (answered (keeper_of x.given) q)) e

  told_is : told x.reply ≡ given (answered (keeper_of x.given) r).answer
  unfolding keeper_call
  told_is = ap told reply_is ∙ told_by (keeper_refusal (settings_from x.given.settings) x.given.p x.given.q r) ((r + x.given.p) / x.given.q) (answered (keeper_of x.given) r).remainder _ refl

  taken_is : accepts (answered (keeper_of x.given) r).answer ≡ true → x.reply.refusal ≡ 0
  unfolding keeper_call
  taken_is a =
      ap (λ (k : KeeperReply). k.refusal) reply_is
      ∙ refusal_by (keeper_refusal (settings_from x.given.settings) x.given.p x.given.q r) ((r + x.given.p) / x.given.q) (answered (keeper_of x.given) r).remainder _ refl a

pub counts_are : (r : ℕ) (seen : List KeeperSeen) → KeeperPassed r seen → keeper_counts seen ≡ counts_from r (keeper_calls seen)
unfolding counts_from
counts_are r [] h = refl
counts_are r (x ∷ xs) h =
    ap (λ (l : List ℕ). told x.reply ++ l) (counts_are x.reply.remainder xs h.1)
    ∙ ap (λ (l : List ℕ). l ++ counts_from x.reply.remainder (keeper_calls xs)) (told_is r x h.0)
    ∙ ap (λ (k : KeeperReply). given (answered (keeper_of x.given) r).answer ++ counts_from k.remainder (keeper_calls xs)) (reply_is r x h.0)

shared_is : (p q r : ℕ) (seen : List KeeperSeen) → KeeperPassed r seen → KeeperShares p q seen → SharedRate p q r (keeper_calls seen)
unfolding SharedRate
shared_is p q r [] h s = tt
shared_is p q r (x ∷ xs) h s = (
  (λ a. s.0 (taken_is r x h.0 a)),
  subst (λ (k : KeeperReply). SharedRate p q k.remainder (keeper_calls xs)) (reply_is r x h.0) (shared_is p q x.reply.remainder xs h.1 s.1),
)

pub nearest_is : (p q : ℕ) (seen : List KeeperSeen) → 0 < q → KeeperPassed (first_remainder q) seen → KeeperShares p q seen
    → Nearest (length (keeper_counts seen)) p q (sum (keeper_counts seen))
nearest_is p q seen h passed s =
    rw (counts_are (first_remainder q) seen passed) (totals_are_nearest.total p q (keeper_calls seen) h (shared_is p q (first_remainder q) seen passed s))

-- a call is seen as its contract says
abbrev seen_of : KeeperGiven → ℕ → KeeperSeen
seen_of g r = record { given = g; remainder = r; reply = keeper_reply (keeper_call (settings_from g.settings) g.p g.q r); kept = refl }

pub keeper_runs : (r : ℕ) (calls : List KeeperGiven) → (seen : List KeeperSeen) × KeeperPassed r seen × (keeper_given seen ≡ calls)
keeper_runs r [] = ([], tt, refl)
keeper_runs r (g ∷ gs) =
    let x = seen_of g r in
    let rest = keeper_runs x.reply.remainder gs in
    (x ∷ rest.0, (refl, rest.1), ap (λ (l : List KeeperGiven). g ∷ l) rest.2)
