-- Observed calls of a keeper, worked: that such lists of calls there are. Assumes nothing.
use Rattle.std.specs.Prelude.{◌≡◌, List, [], ◌∷◌}
use Rattle.gmp_settings.specs.Settings.{opu0}
use Rattle.gmp_keeper.specs.Keeper.{first_remainder}
use Rattle.gmp_keeper.specs.Sum.{KeeperCall}
use Rattle.claim_keeper.specs.Observed.{KeeperSeen, Passed, SharedSeen, calls_of, counts_of}

-- at the rate of the gigabit client, 18,671,875 / 1,296, and with a divisor of 0, which is refused
abbrev pub usual : KeeperCall
usual = record { settings = opu0; p = 18671875; q = 1296 }

abbrev pub without : KeeperCall
without = record { settings = opu0; p = 18671875; q = 0 }

-- A new keeper's calls, the second of them refused: the first gives 14,407, the third, with the
-- remainder that the refused one was given, 14,408.
pub record WorkedCalls : Type 0 where
  pub seen : List KeeperSeen
  pub passed : Passed (first_remainder 1296) seen
  pub shared : SharedSeen 18671875 1296 seen
  pub calls : calls_of seen ≡ usual ∷ without ∷ usual ∷ []
  pub counts : counts_of seen ≡ 14407 ∷ 14408 ∷ []
