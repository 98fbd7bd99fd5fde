-- What the toolchain reads off the contracts of the calls of the interface is their promise.
-- Assumes nothing.
use mathlib.Core.Path.{◌≡◌}
use mathlib.Core.List.{List}
use Prim.Native.Nat.{ℕ}
use native.Mathlib.Omega.{arith}
use contract.Lifetimes.{Lfts}
use denote.Bor.{Bor}
use denote.Ref.{MutBor, at_last}
use Rattle.gmp_keeper.specs.Keeper.{keeper_call, first_remainder}
use Rattle.gmp_source.specs.declared.SourceState.{SourceState}
use Rattle.gmp_source.specs.Source.{new_source, source_frame}
use Rattle.gmp_payload_type.specs.declared.Expected.{Expected}
use Rattle.gmp_sink.specs.Sink.{new_sink}
use Rattle.c_settings.specs.declared.SettingsNumbers.{SettingsNumbers}
use Rattle.c_settings.specs.Numbers.{settings_from}
use Rattle.c_source.specs.declared.SourceReply.{SourceReply}
use Rattle.c_source.specs.Numbers.{start_reply, source_reply}
use Rattle.c_source.proofs.odu0_source_new.Reads as source-new
use Rattle.c_source.proofs.odu0_source_call.Reads as source-call
use Rattle.c_keeper.specs.declared.KeeperReply.{KeeperReply}
use Rattle.c_keeper.specs.Numbers.{keeper_reply}
use Rattle.c_keeper.proofs.odu0_keeper_new.Reads as keeper-new
use Rattle.c_keeper.proofs.odu0_keeper_call.Reads as keeper-call
use Rattle.c_sink_numbers.specs.declared.SinkNumbers.{SinkNumbers}
use Rattle.c_sink_numbers.specs.declared.SinkReply.{SinkReply}
use Rattle.c_sink_numbers.specs.Numbers.{state_numbers, InterfacePromise}
use Rattle.c_sink.proofs.odu0_sink_new.Reads as sink-new
use Rattle.c_sink.proofs.odu0_sink_call.Reads as sink-call

-- What the toolchain reads off the contracts of the interface's functions (`Learnt`) is what a call
-- that was seen keeps, and what a run begins with.
pub record ContractsPromise : Type 0 where
  pub source_begins : (κs : Lfts 0) (s : SettingsNumbers) (first payload_type : ℕ) (r : SourceReply)
      → source-new.Learnt κs (s, (first, (payload_type, tt))) r (s, (first, (payload_type, tt)))
      → r ≡ start_reply (new_source (settings_from s) first payload_type)
  pub source : (κs : Lfts 2) (s : SettingsNumbers) (z : SourceState) (next : ℕ) (client : Bor (List ℕ)) (buffer : MutBor (List ℕ)) (r : SourceReply) (frame : List ℕ)
      → source-call.Learnt κs (s, (z, (next, (client, (buffer, tt))))) r (s, (z, (next, (client, (at_last buffer frame, tt)))))
      → (r ≡ source_reply (settings_from s) z next client.now buffer.now) × (frame ≡ source_frame (settings_from s) z next client.now buffer.now)
  pub sink_begins : (κs : Lfts 0) (r : SinkNumbers) → sink-new.Learnt κs tt r tt → r ≡ state_numbers new_sink
  pub sink : (κs : Lfts 3) (s : SettingsNumbers) (x : SinkNumbers) (w : Expected) (frame : Bor (List ℕ)) (buffer : MutBor (List ℕ)) (port : ℕ) (tallies : MutBor (List ℕ)) (r : SinkReply) (out t : List ℕ)
      → sink-call.Learnt κs (s, (x, (w, (frame, (buffer, (port, (tallies, tt))))))) r (s, (x, (w, (frame, (at_last buffer out, (port, (at_last tallies t, tt)))))))
      → InterfacePromise (settings_from s) x w frame.now buffer.now port tallies.now r out t
  pub keeper_begins : (κs : Lfts 0) (q r : ℕ) → keeper-new.Learnt κs (q, tt) r (q, tt) → r ≡ first_remainder q
  pub keeper : (κs : Lfts 0) (s : SettingsNumbers) (p q r : ℕ) (k : KeeperReply) → keeper-call.Learnt κs (s, (p, (q, (r, tt)))) k (s, (p, (q, (r, tt))))
      → k ≡ keeper_reply (keeper_call (settings_from s) p q r)

pub contracts_promise : ContractsPromise
contracts_promise =
    record {
      source_begins = λ κs s first payload_type r e. e;
      source = λ κs s z next client buffer r frame e. e;
      sink_begins = λ κs r e. e;
      sink = λ κs s x w frame buffer port tallies r out t e. e;
      keeper_begins = λ κs q r e. let h : r ≡ first_remainder q = e in omega arith;
      keeper = λ κs s p q r k e. e;
    }
