-- The worked calls: of each it is computed what it answers, and the rest is as the definitions say.
-- Assumes nothing.
use mathlib.Core.Path.{◌≡◌, refl, ap, ◌∙◌}
use mathlib.Core.Bool.{Bool, true, false, cond, xor}
use mathlib.Core.List.{List, [], ◌∷◌}
use Prim.Native.Nat.{ℕ}
use lib.ListN.{length}
use Rattle.math.specs.Bits.{bits, differing}
use Rattle.gmp_crc8.specs.Division.{reduce, divide}
use Rattle.gmp_crc8.specs.Check.{remainder, passes, word}
use Rattle.gmp_crc8.specs.Checked.{checked_word}
use Rattle.refusals.specs.Table.{accepts}
use Rattle.gmp_refusal.specs.declared.Refusal.TheVariants.{Grid, Port}
use Rattle.std.specs.Prelude.{Result, Ok, Err}
use Rattle.gmp_refusal.specs.declared.Refusal.{Refusal}
use Rattle.gmp_standing.specs.declared.Standing.{Standing}
use Rattle.gmp_refusal.specs.Refusal.{verdict_number}
use Rattle.gmp_settings.specs.Settings.{outside}
use Rattle.gmp_standing.specs.declared.Standing.TheVariants.{Tracked, Paired, Waiting}
use Rattle.gmp_standing.specs.Known.{in_window}
use Rattle.gmp_control.specs.Word.{equal_indicators}
use Rattle.gmp_control.specs.Pattern.{table_of}
use Rattle.gmp_control.specs.Follow.{usable, tracked, candidate, paired, reached, found_by}
use Rattle.gmp_places.specs.Places.{places, chosen}
use Rattle.gmp_frame.specs.Frame.{columns, payload, client_bytes, control_of}
use Rattle.gmp_payload_type.specs.Types.{judged, types_after, gate_open}
use Rattle.gmp_source.specs.Source.{source_refusal, source_state}
use Rattle.card_tally.specs.declared.Tallies.{Tallies}
use Rattle.card_tally.specs.Ports.{new_tallies}
use Rattle.card_promise.specs.Card.{tallies_after}
use Rattle.gmp_sink.specs.declared.SinkState.{SinkState}
use Rattle.gmp_sink.specs.Sink.{new_sink, answer_meaning, sink_refusal, sink_answer, handed, released, standing_after, state_after, sink_state, sink_handed}
use Rattle.claim_recovery.specs.Runs.{SinkCall, SourceStep, SinkStep, refusal_of, source_after, sink_after, sink_steps, frame_of, answer_of, mended_of, handed_of, out_of}
use Rattle.claim_worked.specs.Run.{small, wrong, room, send, source, frame1, frame2, frame3, lend_on, lost}
use Rattle.claim_calls.specs.Observed.{SourceSeen, SinkSeen, SinkPassed, sink_calls, sink_taken}
use Rattle.claim_calls.specs.Worked.{on_one, handed_numbers, WorkedSeen}
use Rattle.claim_calls.proofs.Observed.{as_defined}

-- a call that answered so
abbrev source_seen : (x : SourceStep) (v : Result (Unit {0}) Refusal) → verdict_number v ≡ refusal_of x → SourceSeen
source_seen x v e =
    record {
      step = x;
      result = record { answer = v; state = source_after x };
      frame = frame_of x;
      kept = record { refusal = e; state = refl; frame_buffer = refl };
    }

abbrev tallies_of : SinkStep → Tallies → Tallies
tallies_of y t = tallies_after y.call.settings y.state y.call.expected y.call.frame y.call.out y.call.port t

abbrev sink_seen : (y : SinkStep) (t : Tallies) (a : Result Standing Refusal) → answer_meaning a ≡ answer_of y → SinkSeen
sink_seen y t a e =
    record {
      step = y;
      tallies = t;
      result = record { answer = a; state = sink_after y; handed = length (handed_of y); mended = mended_of y };
      out = out_of y;
      tallies_then = tallies_of y t;
      kept = record { sink = record { answer = e; state = refl; handed_bytes = refl; mended = refl; out_buffer = refl }; tallies = refl };
    }

abbrev x1 : SourceStep
x1 = record { call = send small 4 (11 ∷ 12 ∷ 13 ∷ []); state = source }

abbrev x2 : SourceStep
x2 = record { call = send wrong 4 (11 ∷ 12 ∷ 13 ∷ 14 ∷ []); state = source_after x1 }

abbrev x3 : SourceStep
x3 = record { call = send small 6 (21 ∷ 22 ∷ 23 ∷ 24 ∷ []); state = source_after x2 }

source_answers : (verdict_number (Ok tt) ≡ refusal_of x1) × (verdict_number (Err Grid) ≡ refusal_of x2) × (verdict_number (Ok tt) ≡ refusal_of x3)
unfolding source_refusal source_state outside
source_answers = (refl, refl, refl)

abbrev y1 : SinkStep
y1 = record { call = lend_on 1 small frame1 tt room; state = new_sink }

abbrev y2 : SinkStep
y2 = record { call = lend_on 9 small frame1 tt room; state = sink_after y1 }

abbrev y3 : SinkStep
y3 = record { call = lend_on 1 small frame2 tt room; state = sink_after y2 }

abbrev w1 : SinkStep
w1 = record { call = lend_on 5 small frame2 tt room; state = lost }

abbrev y4 : SinkStep
y4 = record { call = lend_on 1 small frame3 tt room; state = sink_after y3 }

sink_answers : (answer_meaning (Ok Waiting) ≡ answer_of y1) × (answer_meaning (Err Port) ≡ answer_of y2) × (answer_meaning (Ok (Paired 6)) ≡ answer_of y3) × (answer_meaning (Ok Waiting) ≡ answer_of w1) × (answer_meaning (Ok (Tracked 5)) ≡ answer_of y4)
unfolding sink_refusal sink_answer sink_state standing_after state_after control_of found_by reached in_window usable tracked candidate paired equal_indicators passes checked_word remainder divide reduce bits outside word differing table_of
sink_answers = (refl, refl, refl, refl, refl)

abbrev t1 : Tallies
t1 = tallies_of y1 new_tallies

abbrev t2 : Tallies
t2 = tallies_of w1 t1

abbrev t3 : Tallies
t3 = tallies_of y2 t2

abbrev t4 : Tallies
t4 = tallies_of y3 t3

-- how many bytes steps hand out
abbrev lengths : List SinkStep → List ℕ
lengths [] = []
lengths (y ∷ ys) = length (handed_of y) ∷ lengths ys

lengths_cond : (b : Bool) (y : SinkStep) (ys : List SinkStep) → cond b (length (handed_of y) ∷ lengths ys) (lengths ys) ≡ lengths (cond b (y ∷ ys) ys)
lengths_cond true y ys = refl
lengths_cond false y ys = refl

numbers_are : (seen : List SinkSeen) → handed_numbers seen ≡ lengths (sink_taken seen)
numbers_are [] = refl
numbers_are (c ∷ cs) =
    let b = accepts (answer_meaning c.result.answer) in
    ap (λ (n : ℕ). cond b (n ∷ handed_numbers cs) (handed_numbers cs)) (as_defined.handed c)
    ∙ ap (λ (l : List ℕ). cond b (length (handed_of c.step) ∷ l) l) (numbers_are cs)
    ∙ lengths_cond b c.step (sink_taken cs)

one_lengths : lengths (sink_steps new_sink on_one) ≡ 0 ∷ 0 ∷ 6 ∷ []
unfolding sink_steps remainder divide reduce bits outside sink_refusal sink_state sink_handed released gate_open types_after judged handed standing_after state_after control_of found_by reached in_window usable tracked candidate paired equal_indicators passes checked_word client_bytes chosen payload columns places word differing xor table_of
one_lengths = refl

one_handed : (seen : List SinkSeen) (e : SinkState) → SinkPassed new_sink seen e → sink_calls seen ≡ on_one → handed_numbers seen ≡ 0 ∷ 0 ∷ 6 ∷ []
one_handed seen e passed calls =
    numbers_are seen ∙ ap lengths (as_defined.sink new_sink seen e passed) ∙ ap (λ (cs : List SinkCall). lengths (sink_steps new_sink cs)) calls ∙ one_lengths

pub worked_seen : WorkedSeen
worked_seen =
    record {
      source_seen = source_seen x1 (Ok tt) source_answers.0 ∷ source_seen x2 (Err Grid) source_answers.1 ∷ source_seen x3 (Ok tt) source_answers.2 ∷ [];
      source_passed = (refl, (refl, (refl, tt)));
      calls_sent = refl;
      first = sink_seen y1 new_tallies (Ok Waiting) sink_answers.0;
      refused = sink_seen y2 t2 (Err Port) sink_answers.1;
      third = sink_seen y3 t3 (Ok (Paired 6)) sink_answers.2;
      fourth = sink_seen y4 t4 (Ok (Tracked 5)) sink_answers.4;
      other = sink_seen w1 t1 (Ok Waiting) sink_answers.3;
      one_end = sink_after y4;
      one_passed = (refl, (refl, (refl, (refl, refl))));
      one_calls = refl;
      five_end = sink_after w1;
      five_passed = (refl, refl);
      five_calls = refl;
      tallies = tallies_of y4 t4;
      card_passed = (refl, (refl, (refl, (refl, (refl, refl)))));
      one_handed = one_handed;
    }
