-- The rate keeper (01, "Source and rate keeper"): "It gives the whole part of (r + p) / q as the
-- next count and keeps (r + p) mod q." Assumes nothing.
use Rattle.std.specs.Prelude.{◌≡◌, Bool, true, cond, ◌||◌, List, [], ◌∷◌, ◌++◌, ℕ, ◌+◌, ◌*◌, ◌/◌, ◌%◌, eqb, ltb, leb}
use Rattle.gmp_settings.specs.declared.Settings.{Settings}
use Rattle.refusals.specs.Table.{Reason, reason, lowest, ascending, Answer, accepted, refused, answer_by}
use Rattle.gmp_refusal.specs.Refusal.{refusal_number}
use Rattle.gmp_settings.specs.Settings.{settings_reasons}
use Rattle.gmp_settings.specs.Patterns.{bad_patterns}
use Rattle.std.specs.Prelude.{Result, Ok, Err}
use Rattle.gmp_refusal.specs.declared.Refusal.{Refusal}
use Rattle.gmp_keeper.specs.declared.KeeperResult.{KeeperResult}

-- number 3, divisor: "q is 0 or above 65,535"
abbrev pub bad_divisor : ℕ → Bool
bad_divisor q = eqb q 0 || ltb 65535 q

-- number 4, rate: "whole part of p / q below lo, or p > hi × q"
abbrev pub bad_rate : Settings → ℕ → ℕ → Bool
bad_rate s p q = ltb (p / q) s.lo || ltb (s.hi * q) p

-- number 5, state: "r ≥ q"
abbrev pub bad_remainder : ℕ → ℕ → Bool
bad_remainder q r = leb q r

-- the lines of the table that are the keeper's own, and number 14 after them (02, P11)
abbrev pub keeper_reasons : Settings → ℕ → ℕ → ℕ → List Reason
keeper_reasons s p q r =
    reason 3 (bad_divisor q) ∷ reason 4 (bad_rate s p q) ∷ reason 5 (bad_remainder q r) ∷ reason 14 (bad_patterns s) ∷ []

-- why a call is turned back, or 0
unfoldable pub keeper_refusal : Settings → ℕ → ℕ → ℕ → ℕ
keeper_refusal s p q r = lowest (settings_reasons s ++ keeper_reasons s p q r)

-- "the lowest number that applies is the answer": a call is turned back by the first line that
-- applies, and the numbers of the lines ascend
abbrev pub NumbersAscend : Type 0
NumbersAscend = (s : Settings) (p q r : ℕ)
    → let lines = settings_reasons s ++ keeper_reasons s p q r in
    (keeper_refusal s p q r ≡ lowest lines) × (ascending 0 lines ≡ true)

-- a result as the paper gives it: the count, or the number of the refusal, and the remainder kept
pub record Kept : Type 0 where
  pub answer : Answer ℕ
  pub remainder : ℕ

-- the paper's number and value for each case of the answer
abbrev pub answer_meaning : Result ℕ Refusal → Answer ℕ
answer_meaning (Ok n) = accepted n
answer_meaning (Err r) = refused (refusal_number r)

abbrev pub result_meaning : KeeperResult → Kept
result_meaning r = record { answer = answer_meaning r.answer; remainder = r.remainder }

-- what a call with this number answers
abbrev pub kept_by : ℕ → ℕ → ℕ → ℕ → Kept
kept_by n p q r = record { answer = answer_by n ((r + p) / q); remainder = cond (eqb n 0) ((r + p) % q) r }

-- one call of the keeper
unfoldable pub keeper_call : Settings → ℕ → ℕ → ℕ → Kept
keeper_call s p q r = kept_by (keeper_refusal s p q r) p q r

-- the remainder of a new keeper: "half q, rounded down" (02, P7, which replaces 01's "zero at the
-- start"); 0 where q is 0, a divisor that every call refuses
abbrev pub first_remainder : ℕ → ℕ
first_remainder q = q / 2
