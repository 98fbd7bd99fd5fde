-- "Partners now expect the running total nearest to t × p / q, exact halves going up" (02, P7): t
-- is the number of counts that a new keeper gave, T their sum. Assumes nothing.
use Rattle.std.specs.Prelude.{◌≡◌, List, ℕ, ◌+◌, ◌-◌, ◌*◌, ◌≤◌, ◌<◌, length}
use Rattle.gmp_keeper.specs.Keeper.{first_remainder}
use Rattle.gmp_keeper.specs.Sum.{KeeperCall, counts_from, SharedRate, sum}

-- T is "nearest to t × p / q, exact halves going up": t × p / q lies less than a half above T and
-- at most a half below it, in whole numbers
pub record Nearest (t p q T : ℕ) : Type 0 where
  pub above : 2 * t * p < 2 * q * T + q
  pub below : 2 * q * T ≤ 2 * t * p + q

-- how far two numbers lie apart: of the two differences one at least is 0
abbrev pub apart : ℕ → ℕ → ℕ
apart a b = (a - b) + (b - a)

pub record TotalsAreNearest : Type 0 where
  -- the total of a new keeper is, over any list of calls, refused ones among them, of which the
  -- accepted ones share p and q
  pub total : (p q : ℕ) (calls : List KeeperCall) → 0 < q → SharedRate p q (first_remainder q) calls
      → Nearest (length (counts_from (first_remainder q) calls)) p q (sum (counts_from (first_remainder q) calls))
  -- no other number is
  pub only : (t p q T U : ℕ) → Nearest t p q T → Nearest t p q U → U ≡ T
  -- what the words mean: no whole number U is nearer to t × p / q, and one that is as near is not
  -- greater; each distance is taken q times
  pub no_nearer : (t p q T U : ℕ) → Nearest t p q T → apart (q * T) (t * p) ≤ apart (q * U) (t * p)
  pub halves_up : (t p q T U : ℕ) → Nearest t p q T → apart (q * U) (t * p) ≡ apart (q * T) (t * p) → U ≤ T
