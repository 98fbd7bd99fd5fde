-- Worked counts of new keepers (02, P7). Those of the gigabit client one by one are starred, and
-- stand in the crate claim_worked. Assumes nothing.
use Rattle.std.specs.Prelude.{◌≡◌, refl, [], ◌∷◌, ℕ}
use Rattle.gmp_settings.specs.Settings.{new_settings, opu0}
use Rattle.gmp_keeper.specs.Keeper.{keeper_refusal, keeper_call, first_remainder}
use Rattle.gmp_keeper.specs.Sum.{KeeperCall, counts_from, sum, rounded_total}

-- 1000BASE-X on OPU0
abbrev pub gigabit : KeeperCall
gigabit = record { settings = opu0; p = 18671875; q = 1296 }

-- its first five counts add up to 72037, where 5 × 18671875 / 1296 is 72036.56
pub five : rounded_total 5 18671875 1296 ≡ 72037
five = refl

-- one client byte in q frames, on the grid K = 1 with the window 0 to 1
abbrev one_in : ℕ → KeeperCall
one_in q = record { settings = new_settings 1 0 1; p = 1; q = q }

-- exact halves go up: 1/2, 2/2, 3/2 and 4/2 are rounded to 1, 1, 2 and 2
pub halves : counts_from (first_remainder 2) (one_in 2 ∷ one_in 2 ∷ one_in 2 ∷ one_in 2 ∷ []) ≡ 1 ∷ 0 ∷ 1 ∷ 0 ∷ []
unfolding counts_from keeper_call keeper_refusal
halves = refl

-- an odd divisor: 1/3, 2/3 and 3/3 are rounded to 0, 1 and 1
pub thirds : counts_from (first_remainder 3) (one_in 3 ∷ one_in 3 ∷ one_in 3 ∷ []) ≡ 0 ∷ 1 ∷ 0 ∷ []
unfolding counts_from keeper_call keeper_refusal
thirds = refl

-- "a keeper restarted in between begins a new sum": four counts of one keeper add up to 57629; two
-- counts and, after a restart, two more to 28815 and 28815, one more in all
pub unbroken : sum (counts_from (first_remainder 1296) (gigabit ∷ gigabit ∷ gigabit ∷ gigabit ∷ [])) ≡ 57629
unfolding sum counts_from keeper_call keeper_refusal
unbroken = refl

pub restarted : sum (counts_from (first_remainder 1296) (gigabit ∷ gigabit ∷ [])) ≡ 28815
unfolding sum counts_from keeper_call keeper_refusal
restarted = refl
