-- The worked calls, by computing the definitions. Assumes nothing.
use mathlib.Core.Path.{refl, sym}
use mathlib.Core.Bool.{true≢false}
use mathlib.Core.List.{[], ◌∷◌}
use Rattle.gmp_refusal.specs.declared.Refusal.TheVariants.{Divisor}
use Rattle.gmp_settings.specs.Settings.{outside}
use Rattle.std.specs.Prelude.{Ok, Err}
use Rattle.gmp_keeper.specs.Keeper.{keeper_refusal, keeper_call}
use Rattle.claim_keeper.specs.Observed.{KeeperSeen}
use Rattle.claim_keeper.specs.Worked.{usual, without, WorkedCalls}

first : KeeperSeen
unfolding keeper_call keeper_refusal outside
first = record { call = usual; r = 648; result = record { answer = Ok 14407; remainder = 1051 }; kept = refl }

turned_back : KeeperSeen
unfolding keeper_call keeper_refusal outside
turned_back = record { call = without; r = 1051; result = record { answer = Err Divisor; remainder = 1051 }; kept = refl }

third : KeeperSeen
unfolding keeper_call keeper_refusal outside
third = record { call = usual; r = 1051; result = record { answer = Ok 14408; remainder = 158 }; kept = refl }

pub worked_calls : WorkedCalls
unfolding first turned_back third
worked_calls =
    record {
      seen = first ∷ turned_back ∷ third ∷ [];
      passed = (refl, (refl, (refl, tt)));
      shared = ((λ h. (refl, refl)), ((λ h. absurd (true≢false (sym h))), ((λ h. (refl, refl)), tt)));
      calls = refl;
      counts = refl;
    }
