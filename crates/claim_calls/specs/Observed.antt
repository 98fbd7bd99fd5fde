-- Runs as they are observed: of each call what it was given, what it returned and what it left in
-- the lent buffers. All that is known of a call is the promise of its contract: the functions named
-- `.._kept` promise that of the real calls. What the toolchain reads off their contracts is stated
-- in proofs/Contracts.antt and specs/Lent.antt, since no clause may cite it. Such runs are those
-- that the claims are about. Assumes nothing.
use Rattle.std.specs.Prelude.{◌≡◌, cond, List, [], ◌∷◌, ℕ, eqb, length}
use Rattle.refusals.specs.Table.{accepts}
use Rattle.gmp_refusal.specs.Refusal.{verdict_number}
use Rattle.card_tally.specs.declared.Tallies.{Tallies}
use Rattle.gmp_source.specs.declared.SourceState.{SourceState}
use Rattle.gmp_source.specs.declared.SourceResult.{SourceResult}
use Rattle.gmp_source.specs.Source.{SourcePromise}
use Rattle.gmp_sink.specs.declared.SinkState.{SinkState}
use Rattle.gmp_sink.specs.declared.SinkResult.{SinkResult}
use Rattle.gmp_sink.specs.Sink.{answer_meaning}
use Rattle.card_promise.specs.Card.{CardPromise}
use Rattle.claim_recovery.specs.Runs.{SourceCall, SinkCall, SourceStep, SinkStep, refusal_of, source_steps, sink_steps, sink_end, frame_of, answer_of, mended_of, handed_of, out_of}
use Rattle.claim_recovery.specs.Tallied.{tallies_end}

-- a call of the source: it returned the result, left the frame buffer so, and kept its promise
pub record SourceSeen : Type 0 where
  pub step : SourceStep
  pub result : SourceResult
  pub frame : List ℕ
  pub kept : SourcePromise step.call.settings step.state step.call.next step.call.client step.call.buffer result frame

-- A call of a sink with the card's tallies, be it of `sink_call`, which is lent them (Lent.antt),
-- or of `count_call` or `lend_call`, which have them by value: their promise is the same.
pub record SinkSeen : Type 0 where
  pub step : SinkStep
  pub tallies : Tallies
  pub result : SinkResult
  pub out : List ℕ
  pub tallies_then : Tallies
  pub kept : CardPromise step.call.settings step.state step.call.expected step.call.frame step.call.out step.call.port tallies result out tallies_then

-- "Each call gets the state that the call before it in its list returned", the first one z,
abbrev pub SourcePassed : SourceState → List SourceSeen → Type 0
SourcePassed z [] = Unit {0}
SourcePassed z (x ∷ xs) = (x.step.state ≡ z) × SourcePassed x.result.state xs

-- and the last call of a sink returned the state e. The tallies are free: they are the card's.
abbrev pub SinkPassed : SinkState → List SinkSeen → SinkState → Type 0
SinkPassed z [] e = e ≡ z
SinkPassed z (c ∷ cs) e = (c.step.state ≡ z) × SinkPassed c.result.state cs e

-- The card's tallies go through the calls of all its sinks, in the order in which they were made:
-- each call gets the tallies that the call before it left, the first one y, and the last one left
-- t. Whose states they are given and which ports they name is free.
abbrev pub TalliesPassed : Tallies → List SinkSeen → Tallies → Type 0
TalliesPassed y [] t = t ≡ y
TalliesPassed y (c ∷ cs) t = (c.tallies ≡ y) × TalliesPassed c.tallies_then cs t

-- the calls that were made, and those that no number turned back
abbrev pub source_calls : List SourceSeen → List SourceCall
source_calls [] = []
source_calls (x ∷ xs) = x.step.call ∷ source_calls xs

abbrev pub source_taken : List SourceSeen → List SourceStep
source_taken [] = []
source_taken (x ∷ xs) = cond (eqb (verdict_number x.result.answer) 0) (x.step ∷ source_taken xs) (source_taken xs)

abbrev pub sink_calls : List SinkSeen → List SinkCall
sink_calls [] = []
sink_calls (y ∷ ys) = y.step.call ∷ sink_calls ys

abbrev pub sink_taken : List SinkSeen → List SinkStep
sink_taken [] = []
sink_taken (y ∷ ys) = cond (accepts (answer_meaning y.result.answer)) (y.step ∷ sink_taken ys) (sink_taken ys)

-- all calls, each with the state that it was given
abbrev pub sink_made : List SinkSeen → List SinkStep
sink_made [] = []
sink_made (y ∷ ys) = y.step ∷ sink_made ys

-- Calls that keep their promises go as the definitions go. The accepted calls of a run are its
-- steps, each answers, says of mending and leaves in its buffer what the step does, and the last
-- state is that of the run. The tallies after the calls of all sinks of a card are those of their
-- steps.
pub record AsDefined : Type 0 where
  pub source : (z : SourceState) (seen : List SourceSeen) → SourcePassed z seen → source_taken seen ≡ source_steps z (source_calls seen)
  pub refusal : (x : SourceSeen) → verdict_number x.result.answer ≡ refusal_of x.step
  pub frame : (x : SourceSeen) → x.frame ≡ frame_of x.step
  pub sink : (z : SinkState) (seen : List SinkSeen) (e : SinkState) → SinkPassed z seen e → sink_taken seen ≡ sink_steps z (sink_calls seen)
  pub end : (z : SinkState) (seen : List SinkSeen) (e : SinkState) → SinkPassed z seen e → e ≡ sink_end z (sink_calls seen)
  pub answer : (c : SinkSeen) → answer_meaning c.result.answer ≡ answer_of c.step
  pub mended : (c : SinkSeen) → c.result.mended ≡ mended_of c.step
  pub handed : (c : SinkSeen) → c.result.handed ≡ length (handed_of c.step)
  pub out : (c : SinkSeen) → c.out ≡ out_of c.step
  pub tallies : (y : Tallies) (seen : List SinkSeen) (t : Tallies) → TalliesPassed y seen t → t ≡ tallies_end y (sink_made seen)
