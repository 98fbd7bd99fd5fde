-- The run with a customer's patterns, by computing the definitions. Assumes nothing.
use mathlib.Core.Path.{◌≡◌, refl}
use mathlib.Core.Bool.{false, xor}
use lib.Dec.{lit≤}
use Rattle.math.specs.Bits.{bits, differing}
use Rattle.gmp_crc8.specs.Division.{reduce, divide}
use Rattle.gmp_crc8.specs.Check.{remainder, passes, word, wrong_bits}
use Rattle.gmp_crc8.specs.Checked.{checked_word}
use Rattle.gmp_crc8.specs.Claims.{budget}
use Rattle.gmp_settings.specs.Settings.{outside}
use Rattle.gmp_standing.specs.Known.{in_window}
use Rattle.gmp_control.specs.Word.{equal_indicators}
use Rattle.gmp_control.specs.Pattern.{table_of}
use Rattle.gmp_control.specs.Announce.{announced}
use Rattle.gmp_control.specs.Follow.{usable, tracked, candidate, paired, reached, found_by}
use Rattle.gmp_places.specs.Places.{places, placed, tabulate, chosen}
use Rattle.gmp_frame.specs.Frame.{row, frame, columns, payload, client_bytes, control_of, psi_of}
use Rattle.gmp_payload_type.specs.Types.{judged, types_after, gate_open}
use Rattle.gmp_source.specs.Source.{start_refusal, new_source, source_refusal, control_bytes, written, source_state, source_frame}
use Rattle.gmp_sink.specs.Sink.{new_sink, sink_refusal, handed, standing_after, state_after, sink_answer, sink_state, sink_handed, sink_out, released}
use Rattle.claim_recovery.specs.Runs.{SourceStep, source_steps, sink_steps, sink_end}
use Rattle.claim_recovery.specs.Demand.{SourceRun, Unharmed, AtMostWrong}
use Rattle.claim_worked.specs.Customer.{theirs, begun, sendings, their_new, their_lost, their_any, their_noisy, CustomerRun}
use Rattle.claim_worked.proofs.Build.{all_nth, reads_by}

their_run : SourceRun theirs begun sendings
unfolding source_steps sink_steps sink_end source_refusal source_state source_frame new_source start_refusal written control_bytes announced frame row tabulate placed places remainder divide reduce bits outside sink_refusal sink_answer sink_state sink_handed sink_out released gate_open types_after judged handed standing_after state_after control_of found_by reached in_window usable tracked candidate paired equal_indicators passes checked_word client_bytes chosen payload columns word differing xor table_of psi_of wrong_bits
their_run =
    record {
      made_with = theirs;
      first = 4;
      payload_type = 7;
      made = refl;
      shared = all_nth (λ (x : SourceStep). x.call.settings ≡ theirs) (source_steps begun sendings) (refl, (refl, (refl, (refl, (refl, (refl, tt))))));
    }

pub customer_run : CustomerRun
unfolding source_steps sink_steps sink_end source_refusal source_state source_frame new_source start_refusal written control_bytes announced frame row tabulate placed places remainder divide reduce bits outside sink_refusal sink_answer sink_state sink_handed sink_out released gate_open types_after judged handed standing_after state_after control_of found_by reached in_window usable tracked candidate paired equal_indicators passes checked_word client_bytes chosen payload columns word differing xor table_of psi_of wrong_bits
customer_run =
    record {
      source_run = their_run;
      written = refl;
      new_reads = reads_by theirs (source_steps begun sendings) Unharmed 1 6 new_sink their_new (lit≤ tt) (refl, (refl, (refl, (refl, (refl, (refl, tt))))))
          (refl, (refl, (refl, (refl, (refl, (refl, tt)))))) refl;
      new_answers = refl;
      new_holds = refl;
      lost_reads = reads_by theirs (source_steps begun sendings) Unharmed 2 6 their_lost their_any (lit≤ tt) (refl, (refl, (refl, (refl, (refl, tt)))))
          (refl, (refl, (refl, (refl, (refl, tt))))) refl;
      lost_answers = refl;
      lost_holds = refl;
      noisy_reads = reads_by theirs (source_steps begun sendings) (AtMostWrong (budget false) theirs) 2 5 new_sink their_noisy (lit≤ tt) (refl, (refl, (refl, (refl, tt))))
          (lit≤ tt, (lit≤ tt, (lit≤ tt, (lit≤ tt, tt)))) refl;
      noisy_answers = refl;
      noisy_holds = refl;
      ours_answers = refl;
      source_told = refl;
      sink_told = (refl, refl, refl, refl);
    }
