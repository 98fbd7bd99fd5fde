-- The runs with the payload type checked, by computing the definitions. Assumes nothing.
use mathlib.Core.Path.{refl}
use mathlib.Core.Bool.{xor}
use Rattle.math.specs.Bits.{bits, differing}
use Rattle.gmp_crc8.specs.Division.{reduce, divide}
use Rattle.gmp_crc8.specs.Check.{remainder, passes, word, wrong_bits}
use Rattle.gmp_crc8.specs.Checked.{checked_word}
use Rattle.gmp_settings.specs.Settings.{outside}
use Rattle.gmp_standing.specs.Known.{in_window}
use Rattle.gmp_control.specs.Word.{equal_indicators}
use Rattle.gmp_control.specs.Pattern.{table_of}
use Rattle.gmp_control.specs.Follow.{usable, tracked, candidate, paired, reached, found_by}
use Rattle.gmp_places.specs.Places.{places, chosen}
use Rattle.gmp_frame.specs.Frame.{columns, payload, client_bytes, control_of, psi_of}
use Rattle.gmp_payload_type.specs.Types.{judged, types_after, gate_open}
use Rattle.gmp_sink.specs.Sink.{sink_refusal, handed, released, standing_after, state_after, sink_answer, sink_state, sink_handed, sink_out}
use Rattle.claim_recovery.specs.Runs.{sink_steps, sink_end}
use Rattle.claim_recovery.specs.Tallied.{bytes_of}
use Rattle.claim_worked.specs.Typed.{TypedRun}

pub typed_run : TypedRun
unfolding sink_steps sink_end remainder divide reduce bits outside sink_refusal sink_answer sink_state sink_handed sink_out released gate_open types_after judged handed standing_after state_after control_of found_by reached in_window usable tracked candidate paired equal_indicators passes checked_word client_bytes chosen payload columns places word differing xor table_of bytes_of psi_of wrong_bits
typed_run =
    record {
      right_answers = refl;
      right_handed = refl;
      right_buffers = refl;
      right_types = refl;
      hit_answers = refl;
      hit_handed = refl;
      swapped_answers = refl;
      swapped_handed = refl;
      swapped_bytes = refl;
      swapped_types = refl;
      service_answers = refl;
      service_handed = refl;
      service_types = refl;
      broken_types = refl;
      off_handed = refl;
      off_types = refl;
    }
