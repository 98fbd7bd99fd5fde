-- A rate keeper as it is observed: of each call what it was given and what it returned. All that is
-- known of a call is what the contract of `next_count` says, and of the remainder that a new keeper
-- begins with what that of `first_remainder` says: `next_count_kept` and `first_remainder_kept`
-- promise that of the real calls. What the toolchain reads off their contracts is stated in
-- proofs/Contracts.antt, since no clause may cite it. Assumes nothing.
use Rattle.std.specs.Prelude.{◌≡◌, true, List, [], ◌∷◌, ◌++◌, ℕ, ◌+◌, ◌*◌, ◌/◌, ◌<◌, length}
use Rattle.refusals.specs.Table.{accepts}
use Rattle.gmp_keeper.specs.declared.KeeperResult.{KeeperResult}
use Rattle.gmp_keeper.specs.Keeper.{answer_meaning, result_meaning, keeper_call, first_remainder}
use Rattle.gmp_keeper.specs.Sum.{KeeperCall, given, counts_from, sum, rounded_total}
use Rattle.gmp_keeper.specs.Nearest.{Nearest}

-- a call with the remainder r: it returned the result, and kept its promise
pub record KeeperSeen : Type 0 where
  pub call : KeeperCall
  pub r : ℕ
  pub result : KeeperResult
  pub kept : result_meaning result ≡ keeper_call call.settings call.p call.q r

-- each call got the remainder that the call before it returned, the first one r
abbrev pub Passed : ℕ → List KeeperSeen → Type 0
Passed r [] = Unit {0}
Passed r (x ∷ xs) = (x.r ≡ r) × Passed x.result.remainder xs

-- the accepted calls have this p and this q; the settings, and all of a refused call, are free
abbrev pub SharedSeen : ℕ → ℕ → List KeeperSeen → Type 0
SharedSeen p q [] = Unit {0}
SharedSeen p q (x ∷ xs) = (accepts (answer_meaning x.result.answer) ≡ true → (x.call.p ≡ p) × (x.call.q ≡ q)) × SharedSeen p q xs

-- the calls, and the counts that they gave
abbrev pub calls_of : List KeeperSeen → List KeeperCall
calls_of [] = []
calls_of (x ∷ xs) = x.call ∷ calls_of xs

abbrev pub counts_of : List KeeperSeen → List ℕ
counts_of [] = []
counts_of (x ∷ xs) = given (answer_meaning x.result.answer) ++ counts_of xs

pub record ObservedCounts : Type 0 where
  -- the counts are those of the definitions
  pub as_defined : (r : ℕ) (seen : List KeeperSeen) → Passed r seen → counts_of seen ≡ counts_from r (calls_of seen)
  -- from any remainder r below q, t counts add up to the whole part of (r + t × p) / q
  pub from_any : (p q r : ℕ) → r < q → (seen : List KeeperSeen) → Passed r seen → SharedSeen p q seen
      → sum (counts_of seen) ≡ (r + length (counts_of seen) * p) / q
  -- the first t counts of a new keeper add up to the rounded total (02, P7, which replaces the
  -- base's promise, the whole part of t × p / q)
  pub new : (p q : ℕ) (seen : List KeeperSeen) → 0 < q → Passed (first_remainder q) seen → SharedSeen p q seen
      → sum (counts_of seen) ≡ rounded_total (length (counts_of seen)) p q
  -- which is the number nearest to t × p / q, exact halves going up
  pub nearest : (p q : ℕ) (seen : List KeeperSeen) → 0 < q → Passed (first_remainder q) seen → SharedSeen p q seen
      → Nearest (length (counts_of seen)) p q (sum (counts_of seen))
