-- What the toolchain reads off the contracts of the calls of source and sink is their promise.
-- Assumes nothing.
use mathlib.Core.Path.{◌≡◌}
use mathlib.Core.List.{List}
use Prim.Native.Nat.{ℕ}
use contract.Lifetimes.{Lfts}
use denote.Bor.{Bor}
use denote.Ref.{MutBor, at_last}
use Rattle.gmp_settings.specs.declared.Settings.{Settings}
use Rattle.card_tally.specs.declared.Tallies.{Tallies}
use Rattle.gmp_source.specs.declared.SourceState.{SourceState}
use Rattle.gmp_source.specs.declared.SourceResult.{SourceResult}
use Rattle.std.specs.Prelude.{Result}
use Rattle.gmp_refusal.specs.declared.Refusal.{Refusal}
use Rattle.gmp_source.specs.Source.{SourcePromise, start_meaning, new_source}
use Rattle.gmp_source.proofs.new_source.Reads as start-reading
use Rattle.gmp_source_call.proofs.source_call.Reads as source-reading
use Rattle.gmp_payload_type.specs.declared.Expected.{Expected}
use Rattle.gmp_sink.specs.declared.SinkState.{SinkState}
use Rattle.gmp_sink.specs.Sink.{new_sink}
use Rattle.gmp_sink.proofs.new_sink.Reads as new-reading
use Rattle.card_count.specs.declared.Counted.{Counted}
use Rattle.card_promise.specs.Card.{CardPromise}
use Rattle.card_count.proofs.count_call.Reads as count-reading
use Rattle.card_sink.proofs.lend_call.Reads as lend-reading

-- What the toolchain reads off the contracts of the calls (`Learnt`) is their promise: of what a
-- call was given, returned and left in the buffers that it was lent. A run begins with the source
-- that `new_source` made and the sink that `new_sink` made.
pub record ContractsPromise : Type 0 where
  pub new_source_lem : (κs : Lfts 0) (s : Settings) (first payload_type : ℕ) (r : Result SourceState Refusal)
      → start-reading.Learnt κs (s, (first, (payload_type, tt))) r (s, (first, (payload_type, tt)))
      → start_meaning r ≡ new_source s first payload_type
  pub new_sink_lem : (κs : Lfts 0) (r : SinkState) → new-reading.Learnt κs tt r tt → r ≡ new_sink
  pub source_call_lem : (κs : Lfts 2) (s : Settings) (z : SourceState) (next : ℕ) (client : Bor (List ℕ)) (buffer : MutBor (List ℕ)) (r : SourceResult) (frame : List ℕ)
      → source-reading.Learnt κs (s, (z, (next, (client, (buffer, tt))))) r (s, (z, (next, (client, (at_last buffer frame, tt)))))
      → SourcePromise s z next client.now buffer.now r frame
  pub count_call : (κs : Lfts 2) (s : Settings) (z : SinkState) (w : Expected) (frame : Bor (List ℕ)) (buffer : MutBor (List ℕ)) (port : ℕ) (y : Tallies) (r : Counted) (out : List ℕ)
      → count-reading.Learnt κs (s, (z, (w, (frame, (buffer, (port, (y, tt))))))) r (s, (z, (w, (frame, (at_last buffer out, (port, (y, tt)))))))
      → CardPromise s z w frame.now buffer.now port y r.result out r.tallies
  pub lend_call : (κs : Lfts 2) (s : Settings) (z : SinkState) (w : Expected) (frame : Bor (List ℕ)) (buffer : MutBor (List ℕ)) (port : ℕ) (y : Tallies) (r : Counted) (out : List ℕ)
      → lend-reading.Learnt κs (s, (z, (w, (frame, (buffer, (port, (y, tt))))))) r (s, (z, (w, (frame, (at_last buffer out, (port, (y, tt)))))))
      → CardPromise s z w frame.now buffer.now port y r.result out r.tallies

pub contracts_promise : ContractsPromise
contracts_promise =
    record {
      new_source_lem = λ κs s first payload_type r p. p;
      new_sink_lem = λ κs r p. p;
      source_call_lem = λ κs s z next client buffer r frame p. p;
      count_call = λ κs s z w frame buffer port y r out p. p;
      lend_call = λ κs s z w frame buffer port y r out p. p;
    }
