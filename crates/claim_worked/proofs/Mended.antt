-- The run with mending on, by computing the definitions. Assumes nothing.
use mathlib.Core.Path.{◌≡◌, refl, ap}
use mathlib.Core.Bool.{true, xor}
use lib.Dec.{lit≤}
use Rattle.math.specs.Bits.{bits, differing}
use Rattle.gmp_crc8.specs.Division.{reduce, divide}
use Rattle.gmp_crc8.specs.Check.{remainder, passes, syndrome, word, wrong_bits}
use Rattle.gmp_crc8.specs.Checked.{one_bit, first_with, wrong_bit, mended, checked_word, bit_in, flipped}
use Rattle.gmp_crc8.specs.Claims.{budget}
use Rattle.gmp_settings.specs.Settings.{outside}
use Rattle.gmp_standing.specs.declared.Count.TheVariants.{Known}
use Rattle.gmp_standing.specs.Known.{in_window}
use Rattle.gmp_control.specs.Word.{equal_indicators}
use Rattle.gmp_control.specs.Pattern.{table_of}
use Rattle.gmp_control.specs.Announce.{announced}
use Rattle.gmp_control.specs.Follow.{usable, tracked, candidate, paired, reached, found_by}
use Rattle.gmp_places.specs.Places.{places, placed, tabulate, chosen}
use Rattle.gmp_frame.specs.Frame.{row, frame, columns, payload, client_bytes, control_of, psi_of}
use Rattle.gmp_payload_type.specs.Types.{judged, types_after, gate_open}
use Rattle.gmp_source.specs.Source.{start_refusal, new_source, source_refusal, control_bytes, written, source_state, source_frame}
use Rattle.gmp_sink.specs.declared.SinkState.{SinkState}
use Rattle.gmp_sink.specs.Sink.{new_sink, sink_refusal, handed, standing_after, state_after, mended_in, sink_answer, sink_mended, sink_state, sink_handed, sink_out, released}
use Rattle.claim_recovery.specs.Runs.{SourceStep, source_steps, sink_steps, sink_end}
use Rattle.claim_recovery.specs.Demand.{SourceRun, AtMostWrong}
use Rattle.claim_recovery.specs.Mended.{OneWrong}
use Rattle.claim_recovery.specs.Tallied.{bad_frames_of}
use Rattle.claim_recovery.proofs.Lists.{Each}
use Rattle.claim_worked.specs.Run.{source, frame1, frame2, frame3, frame4, frame5, frame6}
use Rattle.claim_worked.specs.Mended.{mends, sendings, bit2, bit3, bit5, in_step, hearings, harder, MendedRun}
use Rattle.claim_worked.proofs.Build.{all_nth, reads_by, others_by}

mending_source : SourceRun mends source sendings
unfolding source_steps sink_steps sink_end source_refusal source_state source_frame new_source start_refusal written control_bytes announced frame row tabulate placed places remainder divide reduce bits outside sink_refusal sink_answer sink_mended mended_in sink_state sink_handed sink_out released gate_open types_after judged handed standing_after state_after control_of found_by reached in_window usable tracked candidate paired equal_indicators passes checked_word mended wrong_bit first_with one_bit syndrome client_bytes chosen payload columns word differing xor table_of bad_frames_of psi_of bit_in flipped wrong_bits
mending_source =
    record {
      made_with = mends;
      first = 3;
      payload_type = 7;
      made = refl;
      shared = all_nth (λ (x : SourceStep). x.call.settings ≡ mends) (source_steps source sendings) (refl, (refl, (refl, (refl, (refl, (refl, tt))))));
    }

-- each frame that is read beside the written one, whatever the sink's state is
ones : (z : SinkState) → Each (OneWrong mends) (source_steps source sendings) (sink_steps z (hearings mends))
unfolding source_steps sink_steps sink_end source_refusal source_state source_frame new_source start_refusal written control_bytes announced frame row tabulate placed places remainder divide reduce bits outside sink_refusal sink_answer sink_mended mended_in sink_state sink_handed sink_out released gate_open types_after judged handed standing_after state_after control_of found_by reached in_window usable tracked candidate paired equal_indicators passes checked_word mended wrong_bit first_with one_bit syndrome client_bytes chosen payload columns word differing xor table_of bad_frames_of psi_of bit_in flipped wrong_bits
ones z = (
  record { control = lit≤ tt; others = others_by 2 frame1 frame1 tt },
  (
    record { control = lit≤ tt; others = others_by 2 bit2 frame2 tt },
    (
      record { control = lit≤ tt; others = others_by 2 bit3 frame3 tt },
      (
        record { control = lit≤ tt; others = others_by 2 frame4 frame4 tt },
        (record { control = lit≤ tt; others = others_by 2 bit5 frame5 tt }, (record { control = lit≤ tt; others = others_by 2 frame6 frame6 tt }, tt)),
      ),
    ),
  ),
)

pub mended_run : MendedRun
unfolding source_steps sink_steps sink_end source_refusal source_state source_frame new_source start_refusal written control_bytes announced frame row tabulate placed places remainder divide reduce bits outside sink_refusal sink_answer sink_mended mended_in sink_state sink_handed sink_out released gate_open types_after judged handed standing_after state_after control_of found_by reached in_window usable tracked candidate paired equal_indicators passes checked_word mended wrong_bit first_with one_bit syndrome client_bytes chosen payload columns word differing xor table_of bad_frames_of psi_of bit_in flipped wrong_bits
mended_run =
    record {
      source_run = mending_source;
      written = refl;
      on_reads = reads_by mends (source_steps source sendings) (OneWrong mends) 1 6 new_sink (hearings mends) (lit≤ tt) (refl, (refl, (refl, (refl, (refl, (refl, tt)))))) (ones new_sink) refl;
      on_answers = refl;
      on_mended = refl;
      on_bad = refl;
      on_holds = refl;
      remembers = refl;
      step_holds = λ x e. ap (λ (y : SourceStep). Known y.state.count) e;
      step_reads = reads_by mends (source_steps source sendings) (OneWrong mends) 1 6 in_step (hearings mends) (lit≤ tt) (refl, (refl, (refl, (refl, (refl, (refl, tt)))))) (ones in_step) refl;
      step_answers = refl;
      off_answers = refl;
      off_mended = refl;
      off_bad = refl;
      two_reads = reads_by mends (source_steps source sendings) (AtMostWrong (budget true) mends) 2 5 new_sink harder (lit≤ tt) (refl, (refl, (refl, (refl, tt))))
          (lit≤ tt, (lit≤ tt, (lit≤ tt, (lit≤ tt, tt)))) refl;
      two_answers = refl;
      two_mended = refl;
    }
