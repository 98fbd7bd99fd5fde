-- The accepted calls of a run, linked by their states. Assumes nothing.
use mathlib.Core.Path.{◌≡◌, refl, ap, ◌∙◌, subst}
use mathlib.Core.Bool.{Bool, true, false, cond}
use mathlib.Core.List.{List, [], ◌∷◌}
use Prim.Native.Nat.{ℕ, zero, suc}
use lib.ListN.{length, drop}
use borrow.Author.Tests.{eqb-true, eqb-false}
use Rattle.gmp_settings.specs.declared.Settings.{Settings}
use Rattle.gmp_source.specs.declared.SourceState.{SourceState}
use Rattle.gmp_source.specs.Source.{source_refusal}
use Rattle.gmp_source.proofs.Laws as source
use Rattle.gmp_sink.specs.declared.SinkState.{SinkState}
use Rattle.gmp_sink.specs.Sink.{sink_refusal, frame_after}
use Rattle.gmp_sink.proofs.Laws as sink
use Rattle.claim_recovery.specs.Runs.{At, SourceCall, SinkCall, SourceStep, SinkStep, source_takes, sink_takes, source_after, sink_after, source_steps, sink_steps, sink_end}

-- an accepted source call with these settings, from this count
pub record Link (s : Settings) (old : ℕ) (x : SourceStep) : Type 0 where
  pub settings : x.call.settings ≡ s
  pub from : x.state.count ≡ old
  pub taken : source_refusal x.call.settings x.state x.call.next (length x.call.client) (length x.call.buffer) ≡ 0

-- each from the count that the one before it took
abbrev pub Chain : Settings → ℕ → List SourceStep → Type 0
Chain s old [] = Unit {0}
Chain s old (x ∷ xs) = Link s old x × Chain s x.call.next xs

abbrev Shared : Settings → List SourceStep → Type 0
Shared s xs = (i : ℕ) (x : SourceStep) → At xs i x → x.call.settings ≡ s

chain_by : (s : Settings) (x : SourceStep) (b : Bool) (rest : List SourceStep) → source_takes x ≡ b → Shared s (cond b (x ∷ rest) rest)
    → (Shared s rest → Chain s (source_after x).count rest) → Chain s x.state.count (cond b (x ∷ rest) rest)
chain_by s x true rest e sh later =
    let z = eqb-true _ 0 e in (
      record { settings = sh zero x refl; from = refl; taken = z },
      subst (λ (q : SourceState). Chain s q.count rest)
          (source.state_accepted x.call.settings x.state x.call.next x.call.client x.call.buffer z) (later (λ i y p. sh (suc i) y p)),
    )
chain_by s x false rest e sh later =
    subst (λ (q : SourceState). Chain s q.count rest)
    (source.state_refused x.call.settings x.state x.call.next x.call.client x.call.buffer (eqb-false _ 0 e)) (later sh)

pub chain : (s : Settings) (z : SourceState) (calls : List SourceCall) → Shared s (source_steps z calls) → Chain s z.count (source_steps z calls)
unfolding source_steps
chain s z [] sh = tt
chain s z (c ∷ cs) sh =
    let x : SourceStep = record { call = c; state = z } in
    chain_by s x (source_takes x) (source_steps (source_after x) cs) refl sh (chain s (source_after x) cs)

-- a later part of a chain is a chain
pub chain_drop : (s : Settings) (k old : ℕ) (xs : List SourceStep) → Chain s old xs → (n : ℕ) × Chain s n (drop k xs)
chain_drop s zero old xs h = (old, h)
chain_drop s (suc k) old [] h = (old, tt)
chain_drop s (suc k) old (x ∷ xs) h = chain_drop s k x.call.next xs h.1

-- an accepted sink call with these settings, from this state
pub record Told (s : Settings) (z : SinkState) (y : SinkStep) : Type 0 where
  pub settings : y.call.settings ≡ s
  pub from : y.state ≡ z
  pub taken : sink_refusal y.call.settings (length y.call.frame) (length y.call.out) y.call.port ≡ 0

-- the state after it
abbrev pub followed : Settings → SinkState → SinkStep → SinkState
followed s z y = frame_after s z y.call.expected y.call.frame

-- each from the state that the one before it left, to the end e
abbrev pub Thread : Settings → SinkState → List SinkStep → SinkState → Type 0
Thread s z [] e = e ≡ z
Thread s z (y ∷ ys) e = Told s z y × Thread s (followed s z y) ys e

abbrev SharedSink : Settings → List SinkStep → Type 0
SharedSink s ys = (i : ℕ) (y : SinkStep) → At ys i y → y.call.settings ≡ s

thread_by : (s : Settings) (y : SinkStep) (b : Bool) (rest : List SinkStep) (e : SinkState) → sink_takes y ≡ b → SharedSink s (cond b (y ∷ rest) rest)
    → (SharedSink s rest → Thread s (sink_after y) rest e) → Thread s y.state (cond b (y ∷ rest) rest) e
thread_by s y true rest e t sh later =
    let q : y.call.settings ≡ s = sh zero y refl in
    let z = eqb-true _ 0 t in (
      record { settings = q; from = refl; taken = z },
      subst (λ (w : SinkState). Thread s w rest e)
          (sink.state_accepted y.call.settings y.state y.call.frame y.call.expected y.call.out y.call.port z ∙ ap (λ (u : Settings). followed u y.state y) q)
          (later (λ i x p. sh (suc i) x p)),
    )
thread_by s y false rest e t sh later =
    subst (λ (w : SinkState). Thread s w rest e) (sink.state_refused y.call.settings y.state y.call.frame y.call.expected y.call.out y.call.port (eqb-false _ 0 t)) (later sh)

pub thread : (s : Settings) (z : SinkState) (calls : List SinkCall) → SharedSink s (sink_steps z calls) → Thread s z (sink_steps z calls) (sink_end z calls)
unfolding sink_steps sink_end
thread s z [] sh = refl
thread s z (c ∷ cs) sh =
    let y : SinkStep = record { call = c; state = z } in
    thread_by s y (sink_takes y) (sink_steps (sink_after y) cs) (sink_end (sink_after y) cs) refl sh (thread s (sink_after y) cs)
