-- Observed runs are the defined ones. Assumes nothing.
use mathlib.Core.Path.{◌≡◌, refl, ap, ◌∙◌}
use mathlib.Core.Bool.{Bool, true, false, cond}
use mathlib.Core.List.{List, [], ◌∷◌}
use Prim.Native.Nat.{ℕ}
use lib.Dec.{eqb}
use lib.ListN.{length}
use Rattle.refusals.specs.Table.{accepted, refused, accepts}
use Rattle.gmp_refusal.specs.Refusal.{verdict_number}
use Rattle.gmp_standing.specs.Standing.{Finding}
use Rattle.gmp_frame.specs.Frame.{control_of}
use Rattle.gmp_source.specs.declared.SourceState.{SourceState}
use Rattle.card_tally.specs.declared.Tallies.{Tallies}
use Rattle.gmp_sink.specs.declared.SinkState.{SinkState}
use Rattle.gmp_sink.specs.Sink.{answer_meaning, sink_refusal, sink_answer, standing_after}
use Rattle.claim_recovery.specs.Runs.{SourceStep, SinkStep, source_takes, sink_takes, source_steps, sink_steps, sink_end}
use Rattle.claim_recovery.specs.Tallied.{tallies_end}
use Rattle.claim_calls.specs.Observed.{SourceSeen, SinkSeen, SourcePassed, SinkPassed, TalliesPassed, source_calls, source_taken, sink_calls, sink_taken, sink_made, AsDefined}

source_is : (z : SourceState) (seen : List SourceSeen) → SourcePassed z seen → source_taken seen ≡ source_steps z (source_calls seen)
unfolding source_steps
source_is z [] h = refl
source_is z (x ∷ xs) h =
    let p = x.kept in
    ap (λ (l : List SourceStep). cond (eqb (verdict_number x.result.answer) 0) (x.step ∷ l) l) (source_is x.result.state xs h.1)
    ∙ ap (λ (n : ℕ). cond (eqb n 0) (x.step ∷ source_steps x.result.state (source_calls xs)) (source_steps x.result.state (source_calls xs))) p.refusal
    ∙ ap (λ (q : SourceState). cond (source_takes x.step) (x.step ∷ source_steps q (source_calls xs)) (source_steps q (source_calls xs))) p.state
    ∙ ap (λ (q : SourceState). source_steps q (x.step.call ∷ source_calls xs)) h.0

-- a call is accepted where no number turns it back
accepts_cond : (b : Bool) (n : ℕ) (f : Finding) → accepts (cond b (accepted f) (refused n)) ≡ b
accepts_cond true n f = refl
accepts_cond false n f = refl

takes_is : (c : SinkSeen) → accepts (answer_meaning c.result.answer) ≡ sink_takes c.step
unfolding sink_answer
takes_is c =
    let d = c.step.call in
    ap accepts c.kept.sink.answer
    ∙ accepts_cond (sink_takes c.step) (sink_refusal d.settings (length d.frame) (length d.out) d.port)
    (standing_after d.settings c.step.state (control_of d.settings.k d.frame))

sink_is : (z : SinkState) (seen : List SinkSeen) (e : SinkState) → SinkPassed z seen e → sink_taken seen ≡ sink_steps z (sink_calls seen)
unfolding sink_steps
sink_is z [] e h = refl
sink_is z (c ∷ cs) e h =
    let p = c.kept.sink in
    ap (λ (l : List SinkStep). cond (accepts (answer_meaning c.result.answer)) (c.step ∷ l) l) (sink_is c.result.state cs e h.1)
    ∙ ap (λ (b : Bool). cond b (c.step ∷ sink_steps c.result.state (sink_calls cs)) (sink_steps c.result.state (sink_calls cs))) (takes_is c)
    ∙ ap (λ (q : SinkState). cond (sink_takes c.step) (c.step ∷ sink_steps q (sink_calls cs)) (sink_steps q (sink_calls cs))) p.state
    ∙ ap (λ (q : SinkState). sink_steps q (c.step.call ∷ sink_calls cs)) h.0

end_is : (z : SinkState) (seen : List SinkSeen) (e : SinkState) → SinkPassed z seen e → e ≡ sink_end z (sink_calls seen)
unfolding sink_end
end_is z [] e h = h
end_is z (c ∷ cs) e h =
    end_is c.result.state cs e h.1
    ∙ ap (λ (q : SinkState). sink_end q (sink_calls cs)) c.kept.sink.state
    ∙ ap (λ (q : SinkState). sink_end q (c.step.call ∷ sink_calls cs)) h.0

tallies_are : (y : Tallies) (seen : List SinkSeen) (t : Tallies) → TalliesPassed y seen t → t ≡ tallies_end y (sink_made seen)
unfolding tallies_end
tallies_are y [] t h = h
tallies_are y (c ∷ cs) t h =
    tallies_are c.tallies_then cs t h.1
    ∙ ap (λ (w : Tallies). tallies_end w (sink_made cs)) c.kept.tallies
    ∙ ap (λ (w : Tallies). tallies_end w (c.step ∷ sink_made cs)) h.0

pub as_defined : AsDefined
as_defined =
    record {
      source = source_is;
      refusal = λ x. x.kept.refusal;
      frame = λ x. x.kept.frame_buffer;
      sink = sink_is;
      end = end_is;
      answer = λ c. c.kept.sink.answer;
      mended = λ c. c.kept.sink.mended;
      handed = λ c. c.kept.sink.handed_bytes;
      out = λ c. c.kept.sink.out_buffer;
      tallies = tallies_are;
    }
