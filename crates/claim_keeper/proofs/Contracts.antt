-- What the toolchain reads off the contracts of the keeper's calls (`Learnt`) is their promise.
-- Assumes nothing.
use mathlib.Core.Path.{◌≡◌}
use Prim.Native.Nat.{ℕ}
use native.Mathlib.Omega.{arith}
use contract.Lifetimes.{Lfts}
use Rattle.gmp_settings.specs.declared.Settings.{Settings}
use Rattle.gmp_keeper.specs.declared.KeeperResult.{KeeperResult}
use Rattle.gmp_keeper.specs.Keeper.{result_meaning, keeper_call, first_remainder}
use Rattle.gmp_keeper_call.proofs.first_remainder.Reads as first-reading
use Rattle.gmp_keeper_call.proofs.next_count.Reads as next-reading

pub record ContractsPromise : Type 0 where
  -- what the toolchain reads off the contract of `next_count` is its promise, and off that of
  -- `first_remainder` what a new keeper begins with
  pub contract : (κs : Lfts 0) (s : Settings) (p q r : ℕ) (k : KeeperResult) → next-reading.Learnt κs (s, (p, (q, (r, tt)))) k (s, (p, (q, (r, tt))))
      → result_meaning k ≡ keeper_call s p q r
  pub begin : (κs : Lfts 0) (q r : ℕ) → first-reading.Learnt κs (q, tt) r (q, tt) → r ≡ first_remainder q

pub contracts_promise : ContractsPromise
contracts_promise =
    record {
      contract = λ κs s p q r k e. e;
      begin = λ κs q r e. let h : r ≡ first_remainder q = e in omega arith;
    }
