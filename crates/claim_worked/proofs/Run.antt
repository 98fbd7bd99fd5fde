-- The worked run, by computing the definitions, and what does not do: fewer frames, or more wrong
-- bits. Assumes nothing.
use mathlib.Core.Path.{◌≡◌, refl, sym, ap, ◌∙◌}
use mathlib.Core.Bool.{Bool, true, false, cond, xor}
use mathlib.Core.List.{List, [], ◌∷◌}
use mathlib.Core.Logic.{⊎_elim}
use Prim.Native.Nat.{ℕ, ◌+◌}
use native.Mathlib.Omega.{arith}
use lib.Dec.{lit≤}
use lib.ListN.{get_or}
use Rattle.math.specs.Bits.{bits, differing}
use Rattle.gmp_crc8.specs.Division.{reduce, divide}
use Rattle.gmp_crc8.specs.Check.{remainder, passes, syndrome, word, wrong_bits}
use Rattle.gmp_crc8.specs.Checked.{one_bit, first_with, wrong_bit, mended, checked_word, bit_in, flipped}
use Rattle.gmp_crc8.specs.Claims.{budget}
use Rattle.gmp_settings.specs.declared.Settings.{Settings}
use Rattle.refusals.specs.Table.{Answer, accepted, refused}
use Rattle.gmp_settings.specs.Settings.{with_mending, outside}
use Rattle.gmp_standing.specs.declared.Count.TheVariants.{Known, Unknown}
use Rattle.gmp_standing.specs.Standing.{Finding, finding, READ, TRACKED, PAIRED}
use Rattle.gmp_standing.specs.Known.{in_window}
use Rattle.gmp_control.specs.Word.{equal_indicators}
use Rattle.gmp_control.specs.Pattern.{table_of}
use Rattle.gmp_control.specs.Announce.{announced}
use Rattle.gmp_control.specs.Follow.{usable, tracked, candidate, paired, reached, found_by}
use Rattle.gmp_places.specs.Places.{places, placed, tabulate, chosen}
use Rattle.gmp_frame.specs.Frame.{row, frame, columns, payload, client_bytes, control_of, psi_of}
use Rattle.gmp_source.specs.declared.SourceState.{SourceState}
use Rattle.gmp_payload_type.specs.Types.{judged, types_after, gate_open}
use Rattle.gmp_source.specs.Source.{start_refusal, new_source, source_refusal, control_bytes, written, source_state, source_frame}
use Rattle.card_tally.specs.Tally.{added}
use Rattle.card_tally.specs.Ports.{counted, sum_to, total_of}
use Rattle.card_promise.specs.Card.{tallies_after}
use Rattle.gmp_sink.specs.Sink.{new_sink, sink_refusal, handed, standing_after, state_after, sink_answer, sink_state, sink_handed, sink_out, released}
use Rattle.claim_recovery.specs.Runs.{Nth, SourceCall, SinkCall, SourceStep, SinkStep, source_steps, sink_steps, sink_end, count_of, answer_of}
use Rattle.claim_recovery.specs.Tallied.{tallies_end}
use Rattle.claim_recovery.specs.Demand.{SourceRun, Reads, Unharmed, AtMostWrong, equal_frame, NoFalseCount}
use Rattle.claim_worked.specs.Less.{HoldsAfter, DeliversAfter, NoLess}
use Rattle.claim_worked.specs.Run.{small, source, calls, send, room, frame1, frame2, lend, from_first, lost, from_any, noisy, WorkedRun}
use Rattle.claim_worked.proofs.Build.{all_nth, reads_by}
use Rattle.claim_worked.proofs.Two.{not_after_two}

run : SourceRun small source calls
unfolding source_steps sink_steps sink_end source_refusal source_state source_frame new_source start_refusal written control_bytes announced frame row tabulate placed places remainder divide reduce bits outside sink_refusal sink_answer sink_state sink_handed sink_out released gate_open types_after judged handed standing_after state_after control_of found_by reached in_window usable tracked candidate paired equal_indicators passes checked_word client_bytes chosen payload columns word differing xor table_of psi_of wrong_bits
run =
    record {
      made_with = small;
      first = 3;
      payload_type = 7;
      made = refl;
      shared = all_nth (λ (x : SourceStep). x.call.settings ≡ small) (source_steps source calls) (refl, (refl, (refl, (refl, (refl, (refl, tt))))));
    }

pub worked_run : WorkedRun
unfolding source_steps sink_steps sink_end source_refusal source_state source_frame new_source start_refusal written control_bytes announced frame row tabulate placed places remainder divide reduce bits outside sink_refusal sink_answer sink_state sink_handed sink_out released gate_open types_after judged handed standing_after state_after control_of found_by reached in_window usable tracked candidate paired equal_indicators passes checked_word client_bytes chosen payload columns word differing xor table_of tallies_end tallies_after counted added sum_to total_of psi_of wrong_bits
worked_run =
    record {
      source_run = run;
      written = refl;
      new_reads = reads_by small (source_steps source calls) Unharmed 1 6 new_sink from_first (lit≤ tt) (refl, (refl, (refl, (refl, (refl, (refl, tt))))))
          (refl, (refl, (refl, (refl, (refl, (refl, tt)))))) refl;
      new_answers = refl;
      new_holds = refl;
      lost_reads = reads_by small (source_steps source calls) Unharmed 2 6 lost from_any (lit≤ tt) (refl, (refl, (refl, (refl, (refl, tt)))))
          (refl, (refl, (refl, (refl, (refl, tt))))) refl;
      lost_answers = refl;
      lost_holds = refl;
      noisy_reads = reads_by small (source_steps source calls) (AtMostWrong (budget false) small) 2 5 new_sink noisy (lit≤ tt) (refl, (refl, (refl, (refl, tt))))
          (lit≤ tt, (lit≤ tt, (lit≤ tt, (lit≤ tt, tt)))) refl;
      noisy_answers = refl;
      noisy_holds = refl;
      tallies = refl;
      total = refl;
      full_total = refl;
    }

-- After one frame the new sink waits.
abbrev one : List SinkCall
one = lend small frame1 tt room ∷ []

reads_one : Reads small (source_steps source calls) Unharmed 1 1 new_sink one
unfolding source_steps sink_steps sink_end source_refusal source_state source_frame new_source start_refusal written control_bytes announced frame row tabulate placed places remainder divide reduce bits outside sink_refusal sink_answer sink_state sink_handed sink_out released gate_open types_after judged handed standing_after state_after control_of found_by reached in_window usable tracked candidate paired equal_indicators passes checked_word client_bytes chosen payload columns word differing xor table_of psi_of wrong_bits
reads_one = reads_by small (source_steps source calls) Unharmed 1 1 new_sink one (lit≤ tt) (refl, tt) (refl, tt) refl

waits : (n : ℕ) → (sink_end new_sink one).count ≡ Known n → ⊥
unfolding source_steps sink_steps sink_end source_refusal source_state source_frame new_source start_refusal written control_bytes announced frame row tabulate placed places remainder divide reduce bits outside sink_refusal sink_answer sink_state sink_handed sink_out released gate_open types_after judged handed standing_after state_after control_of found_by reached in_window usable tracked candidate paired equal_indicators passes checked_word client_bytes chosen payload columns word differing xor table_of psi_of wrong_bits
waits n e = let z : ◌≡◌ {A = ℕ} 0 1 = cc in omega arith

not_after_one : HoldsAfter 0 → ⊥
not_after_one h = let w = h small source calls run 1 1 (lit≤ tt) one reads_one in waits (count_of w.0) w.2

-- The second frame is answered PAIRED.
abbrev two : List SinkCall
two = lend small frame1 tt room ∷ lend small frame2 tt room ∷ []

reads_two : Reads small (source_steps source calls) Unharmed 1 2 new_sink two
unfolding source_steps sink_steps sink_end source_refusal source_state source_frame new_source start_refusal written control_bytes announced frame row tabulate placed places remainder divide reduce bits outside sink_refusal sink_answer sink_state sink_handed sink_out released gate_open types_after judged handed standing_after state_after control_of found_by reached in_window usable tracked candidate paired equal_indicators passes checked_word client_bytes chosen payload columns word differing xor table_of psi_of wrong_bits
reads_two = reads_by small (source_steps source calls) Unharmed 1 2 new_sink two (lit≤ tt) (refl, (refl, tt)) (refl, (refl, tt)) refl

pairs : (y : SinkStep) → Nth (sink_steps new_sink two) 2 y → answer_of y ≡ accepted (finding PAIRED (Known 6))
unfolding source_steps sink_steps sink_end source_refusal source_state source_frame new_source start_refusal written control_bytes announced frame row tabulate placed places remainder divide reduce bits outside sink_refusal sink_answer sink_state sink_handed sink_out released gate_open types_after judged handed standing_after state_after control_of found_by reached in_window usable tracked candidate paired equal_indicators passes checked_word client_bytes chosen payload columns word differing xor table_of psi_of wrong_bits
pairs y e = ap answer_of (sym e) ∙ refl

-- the names begin with different letters
abbrev letter : Answer Finding → ℕ
letter (accepted f) = get_or f.name 0 0
letter (refused n) = 0

not_paired : (b : Bool) (n : ℕ) (a : Answer Finding) → a ≡ accepted (finding PAIRED (Known 6)) → a ≡ accepted (finding (cond b READ TRACKED) (Known n)) → ⊥
not_paired true n a p q = omega (arith, ap letter (sym p ∙ q))
not_paired false n a p q = omega (arith, ap letter (sym p ∙ q))

not_from_second : DeliversAfter 1 → ⊥
not_from_second h =
    let w = h small source calls run 1 2 (lit≤ tt) two reads_two 2 (lit≤ tt) (lit≤ tt) in
    not_paired (equal_frame w.0) (count_of w.0) (answer_of w.1) (pairs w.1 w.3) w.4.standing

-- Wrong control bits make a false count: 00 00 00 is lent as 00 10 D0, which passes, with four; and
-- with mending on as 00 10 C0, which is mended to it, with three.
abbrev zero_source : SourceState
zero_source = record { count = 0; multiframe = 0; payload_type = 0 }

abbrev with_flag : Bool → Settings
with_flag mending = with_mending small mending

abbrev zeros : Bool → List SourceCall
zeros mending = send (with_flag mending) 0 [] ∷ []

abbrev harmed : ℕ → List ℕ
harmed jc3 = 0 ∷ 0 ∷ 0 ∷ 0 ∷ 0 ∷ 16 ∷ 0 ∷ 0 ∷ 0 ∷ jc3 ∷ 0 ∷ 0 ∷ 0 ∷ 0 ∷ 0 ∷ 0 ∷ []

abbrev read_false : Bool → List SinkCall
read_false true = lend (with_flag true) (harmed 0xC0) tt room ∷ []
read_false false = lend (with_flag false) (harmed 0xD0) tt room ∷ []

zeros_run : (mending : Bool) → SourceRun (with_flag mending) zero_source (zeros mending)
unfolding source_steps sink_steps sink_end source_refusal source_state source_frame new_source start_refusal written control_bytes announced frame row tabulate placed places remainder divide reduce bits outside sink_refusal sink_answer sink_state sink_handed sink_out released gate_open types_after judged handed standing_after state_after control_of found_by reached in_window usable tracked candidate paired equal_indicators passes checked_word mended wrong_bit first_with one_bit syndrome client_bytes chosen payload columns word differing xor table_of psi_of bit_in flipped wrong_bits
zeros_run mending =
    record {
      made_with = with_flag mending;
      first = 0;
      payload_type = 0;
      made = refl;
      shared = all_nth (λ (x : SourceStep). x.call.settings ≡ with_flag mending) (source_steps zero_source (zeros mending)) (refl, tt);
    }

reads_harmed : (mending : Bool)
    → Reads (with_flag mending) (source_steps zero_source (zeros mending)) (AtMostWrong (budget mending + 1) (with_flag mending)) 1 1 new_sink (read_false mending)
unfolding source_steps sink_steps sink_end source_refusal source_state source_frame new_source start_refusal written control_bytes announced frame row tabulate placed places remainder divide reduce bits outside sink_refusal sink_answer sink_state sink_handed sink_out released gate_open types_after judged handed standing_after state_after control_of found_by reached in_window usable tracked candidate paired equal_indicators passes checked_word mended wrong_bit first_with one_bit syndrome client_bytes chosen payload columns word differing xor table_of psi_of bit_in flipped wrong_bits
reads_harmed true =
    reads_by (with_flag true) (source_steps zero_source (zeros true)) (AtMostWrong (budget true + 1) (with_flag true)) 1 1 new_sink (read_false true) (lit≤ tt) (refl, tt) (lit≤ tt, tt) refl
reads_harmed false =
    reads_by (with_flag false) (source_steps zero_source (zeros false)) (AtMostWrong (budget false + 1) (with_flag false)) 1 1 new_sink (read_false false) (lit≤ tt) (refl, tt) (lit≤ tt, tt) refl

false_count_lem : (mending : Bool) → (sink_end new_sink (read_false mending)).count ≡ Known 4
unfolding source_steps sink_steps sink_end source_refusal source_state source_frame new_source start_refusal written control_bytes announced frame row tabulate placed places remainder divide reduce bits outside sink_refusal sink_answer sink_state sink_handed sink_out released gate_open types_after judged handed standing_after state_after control_of found_by reached in_window usable tracked candidate paired equal_indicators passes checked_word mended wrong_bit first_with one_bit syndrome client_bytes chosen payload columns word differing xor table_of psi_of bit_in flipped wrong_bits
false_count_lem true = refl
false_count_lem false = refl

count_zero : (mending : Bool) (x : SourceStep) → Nth (source_steps zero_source (zeros mending)) 1 x → count_of x ≡ 0
unfolding source_steps sink_steps sink_end source_refusal source_state source_frame new_source start_refusal written control_bytes announced frame row tabulate placed places remainder divide reduce bits outside sink_refusal sink_answer sink_state sink_handed sink_out released gate_open types_after judged handed standing_after state_after control_of found_by reached in_window usable tracked candidate paired equal_indicators passes checked_word mended wrong_bit first_with one_bit syndrome client_bytes chosen payload columns word differing xor table_of psi_of bit_in flipped wrong_bits
count_zero mending x e = ap count_of (sym e)

not_with_more : (mending : Bool) → NoFalseCount mending (budget mending + 1) → ⊥
not_with_more mending h = ⊎_elim none some (h (with_flag mending) refl zero_source (zeros mending) (zeros_run mending) 1 1 (read_false mending) (reads_harmed mending)).count
  where
    none : (sink_end new_sink (read_false mending)).count ≡ Unknown → ⊥
    none e = let f = false_count_lem mending in let z : ◌≡◌ {A = ℕ} 0 1 = cc in omega arith

    some : (x : SourceStep) × Nth (source_steps zero_source (zeros mending)) 1 x × ((sink_end new_sink (read_false mending)).count ≡ Known (count_of x)) → ⊥
    some w =
        let f = false_count_lem mending in
        let g = count_zero mending w.0 w.1 in
        let k = w.2 in
        let z : 4 ≡ count_of w.0 = cc in
        omega arith

pub no_less : NoLess
no_less = record { one_frame = not_after_one; second_frame = not_from_second; two_types = not_after_two; one_bit_more = not_with_more }
