-- The sum of a keeper's counts, over any list of its calls, refused ones among them. Each call is
-- given the remainder that the call before it returned; its other arguments are free, but the
-- accepted calls share p and q. Assumes nothing.
use Rattle.std.specs.Prelude.{◌≡◌, true, false, List, [], ◌∷◌, ◌++◌, ℕ, ◌+◌, ◌*◌, ◌/◌, ◌<◌, length}
use Rattle.gmp_settings.specs.declared.Settings.{Settings}
use Rattle.refusals.specs.Table.{Answer, accepted, refused, accepts}
use Rattle.gmp_settings.specs.Settings.{outside}
use Rattle.gmp_keeper.specs.Keeper.{Kept, keeper_call, first_remainder}

-- what the caller of a keeper chooses
pub record KeeperCall : Type 0 where
  pub settings : Settings
  pub p : ℕ
  pub q : ℕ

-- what the call answers, given the remainder r
abbrev pub answered : KeeperCall → ℕ → Kept
answered c r = keeper_call c.settings c.p c.q r

-- the counts that a keeper gives, from the remainder r on
abbrev pub given : Answer ℕ → List ℕ
given (accepted n) = n ∷ []
given (refused k) = []

unfoldable pub counts_from : ℕ → List KeeperCall → List ℕ
counts_from r [] = []
counts_from r (c ∷ cs) = given (answered c r).answer ++ counts_from (answered c r).remainder cs

-- its accepted calls have this p and this q
unfoldable pub SharedRate : ℕ → ℕ → ℕ → List KeeperCall → Type 0
SharedRate p q r [] = Unit {0}
SharedRate p q r (c ∷ cs) = (accepts (answered c r).answer ≡ true → (c.p ≡ p) × (c.q ≡ q)) × SharedRate p q (answered c r).remainder cs

unfoldable pub sum : List ℕ → ℕ
sum [] = 0
sum (n ∷ l) = n + sum l

-- "that rounded total" (02, P7): the whole part of t × p / q plus a half, in whole numbers
abbrev pub rounded_total : ℕ → ℕ → ℕ → ℕ
rounded_total t p q = (2 * t * p + q) / (2 * q)

pub record CountsAddUp : Type 0 where
  -- from any remainder r below q, t counts add up to the whole part of (r + t × p) / q
  pub from_any : (p q r : ℕ) → r < q → (calls : List KeeperCall) → SharedRate p q r calls
      → sum (counts_from r calls) ≡ (r + length (counts_from r calls) * p) / q
  -- from the first remainder that is the rounded total, for odd and even q alike
  pub start : (t p q : ℕ) → 0 < q → (first_remainder q + t * p) / q ≡ rounded_total t p q
  -- the first t counts of a new keeper: "The promised sum over t frames is that rounded total" (02,
  -- P7, which replaces the base's promise, the whole part of t × p / q)
  pub new : (p q : ℕ) (calls : List KeeperCall) → 0 < q → SharedRate p q (first_remainder q) calls
      → sum (counts_from (first_remainder q) calls) ≡ rounded_total (length (counts_from (first_remainder q) calls)) p q
  -- every count that it gives lies in the window
  pub in_window : (c : KeeperCall) (r n : ℕ) → (answered c r).answer ≡ accepted n → outside c.settings n ≡ false
