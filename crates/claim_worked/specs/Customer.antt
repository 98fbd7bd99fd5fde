-- A run with a customer's patterns (02, P11) on the grid K = 2 with the window 0 to 8, with its own
-- steps of every size: read by a new sink, by a sink that knows a false count and a false word, and
-- by a new sink over a hit; calls that number 14 turns back stand in all. A sink with 01's patterns
-- does not find the count. Assumes nothing.
use Rattle.std.specs.Prelude.{◌≡◌, false, List, [], ◌∷◌, ℕ}
use Rattle.gmp_crc8.specs.Claims.{budget}
use Rattle.gmp_settings.specs.declared.Settings.{Settings}
use Rattle.gmp_settings.specs.Settings.{with_patterns}
use Rattle.gmp_settings.specs.Worked.{customer, one_bit_wrong}
use Rattle.gmp_standing.specs.declared.Count.TheVariants.{Known}
use Rattle.gmp_standing.specs.Standing.{READ, TRACKED, PAIRED, BADCHECK, WAITING}
use Rattle.std.specs.Prelude.{Some}
use Rattle.gmp_payload_type.specs.Types.{new_types}
use Rattle.gmp_source.specs.declared.SourceState.{SourceState}
use Rattle.gmp_source.specs.Source.{source_refusal, next_state}
use Rattle.gmp_sink.specs.declared.SinkState.{SinkState}
use Rattle.gmp_sink.specs.Sink.{new_sink, sink_refusal}
use Rattle.claim_recovery.specs.Runs.{SourceCall, SinkCall, source_steps, sink_steps, sink_end}
use Rattle.claim_recovery.specs.Demand.{SourceRun, Reads, Unharmed, AtMostWrong}
use Rattle.claim_worked.specs.Run.{small, room, send, lend, frames, answers, says, says_none}

-- the settings of all, and others that number 14 turns back: one bit of −2 is turned over
abbrev pub theirs : Settings
theirs = with_patterns small customer

abbrev pub rule_broken : Settings
rule_broken = with_patterns small one_bit_wrong

-- A source of count 4: +2, -1, refused (patterns), -2, +1, 0, and to 0.
abbrev pub begun : SourceState
begun = record { count = 4; multiframe = 0; payload_type = 7 }

abbrev pub sendings : List SourceCall
sendings =
    send theirs 6 (11 ∷ 12 ∷ 13 ∷ 14 ∷ [])
    ∷ send theirs 5 (21 ∷ 22 ∷ 23 ∷ 24 ∷ 25 ∷ 26 ∷ [])
    ∷ send rule_broken 3 (31 ∷ 32 ∷ 33 ∷ 34 ∷ 35 ∷ [])
    ∷ send theirs 3 (31 ∷ 32 ∷ 33 ∷ 34 ∷ 35 ∷ [])
    ∷ send theirs 4 (41 ∷ 42 ∷ 43 ∷ [])
    ∷ send theirs 4 (51 ∷ 52 ∷ 53 ∷ 54 ∷ [])
    ∷ send theirs 0 (61 ∷ 62 ∷ 63 ∷ 64 ∷ [])
    ∷ []

-- the six frames that it writes
abbrev pub sent1 : List ℕ
sent1 = 0 ∷ 85 ∷ 0 ∷ 11 ∷ 0 ∷ 70 ∷ 0 ∷ 12 ∷ 0 ∷ 236 ∷ 0 ∷ 13 ∷ 7 ∷ 0 ∷ 0 ∷ 14 ∷ []

abbrev pub sent2 : List ℕ
sent2 = 0 ∷ 15 ∷ 0 ∷ 21 ∷ 0 ∷ 21 ∷ 22 ∷ 23 ∷ 0 ∷ 193 ∷ 0 ∷ 24 ∷ 0 ∷ 0 ∷ 25 ∷ 26 ∷ []

abbrev pub sent3 : List ℕ
sent3 = 0 ∷ 170 ∷ 0 ∷ 31 ∷ 0 ∷ 189 ∷ 0 ∷ 32 ∷ 0 ∷ 165 ∷ 33 ∷ 0 ∷ 0 ∷ 0 ∷ 34 ∷ 35 ∷ []

abbrev pub sent4 : List ℕ
sent4 = 0 ∷ 240 ∷ 0 ∷ 0 ∷ 0 ∷ 254 ∷ 41 ∷ 0 ∷ 0 ∷ 88 ∷ 0 ∷ 42 ∷ 0 ∷ 0 ∷ 0 ∷ 43 ∷ []

abbrev pub sent5 : List ℕ
sent5 = 0 ∷ 0 ∷ 0 ∷ 51 ∷ 0 ∷ 16 ∷ 0 ∷ 52 ∷ 0 ∷ 208 ∷ 0 ∷ 53 ∷ 0 ∷ 0 ∷ 0 ∷ 54 ∷ []

abbrev pub sent6 : List ℕ
sent6 = 0 ∷ 0 ∷ 0 ∷ 61 ∷ 0 ∷ 3 ∷ 0 ∷ 62 ∷ 0 ∷ 23 ∷ 0 ∷ 63 ∷ 0 ∷ 0 ∷ 0 ∷ 64 ∷ []

-- A new sink from frame 1 to 6, with a call that number 14 turns back.
abbrev pub their_new : List SinkCall
their_new =
    lend theirs sent1 tt room
    ∷ lend rule_broken sent2 tt room
    ∷ lend theirs sent2 tt room
    ∷ lend theirs sent3 tt room
    ∷ lend theirs sent4 tt room
    ∷ lend theirs sent5 tt room
    ∷ lend theirs sent6 tt room
    ∷ []

-- A sink with a false count and a false word from frame 2 to 6.
abbrev pub their_lost : SinkState
their_lost = record { count = Known 7; word = Some 21845; types = new_types }

abbrev pub their_any : List SinkCall
their_any =
    lend theirs sent2 tt room
    ∷ lend theirs sent3 tt room
    ∷ lend rule_broken sent4 tt room
    ∷ lend theirs sent4 tt room
    ∷ lend theirs sent5 tt room
    ∷ lend theirs sent6 tt room
    ∷ []

-- A hit: frame 3 with one wrong bit in each control byte, and frame 5 with nothing whole but its
-- control bytes. A new sink from frame 2 to 5.
abbrev pub struck3 : List ℕ
struck3 = 0 ∷ 171 ∷ 0 ∷ 31 ∷ 0 ∷ 188 ∷ 0 ∷ 32 ∷ 0 ∷ 164 ∷ 33 ∷ 0 ∷ 0 ∷ 0 ∷ 34 ∷ 35 ∷ []

abbrev pub struck5 : List ℕ
struck5 = 255 ∷ 0 ∷ 255 ∷ 255 ∷ 255 ∷ 16 ∷ 255 ∷ 255 ∷ 255 ∷ 208 ∷ 255 ∷ 255 ∷ 255 ∷ 255 ∷ 255 ∷ 255 ∷ []

abbrev pub their_noisy : List SinkCall
their_noisy =
    lend theirs sent2 tt room
    ∷ lend theirs struck3 tt room
    ∷ lend rule_broken sent3 tt room
    ∷ lend theirs sent4 tt room
    ∷ lend theirs struck5 tt room
    ∷ []

-- A new sink with 01's patterns, from frame 1 to 4.
abbrev pub ours : List SinkCall
ours = lend small sent1 tt room ∷ lend small sent2 tt room ∷ lend small sent3 tt room ∷ lend small sent4 tt room ∷ []

-- The hypotheses of demand 3 hold of these runs, and they go so.
pub record CustomerRun : Type 0 where
  pub source_run : SourceRun theirs begun sendings
  pub written : frames (source_steps begun sendings) ≡ sent1 ∷ sent2 ∷ sent3 ∷ sent4 ∷ sent5 ∷ sent6 ∷ []
  pub new_reads : Reads theirs (source_steps begun sendings) Unharmed 1 6 new_sink their_new
  pub new_answers : answers (sink_steps new_sink their_new) ≡ says_none WAITING ∷ says PAIRED 5 ∷ says TRACKED 3 ∷ says TRACKED 4 ∷ says READ 4 ∷ says READ 0 ∷ []
  pub new_holds : (sink_end new_sink their_new).count ≡ Known 0
  pub lost_reads : Reads theirs (source_steps begun sendings) Unharmed 2 6 their_lost their_any
  pub lost_answers : answers (sink_steps their_lost their_any) ≡ says_none WAITING ∷ says PAIRED 3 ∷ says TRACKED 4 ∷ says READ 4 ∷ says READ 0 ∷ []
  pub lost_holds : (sink_end their_lost their_any).count ≡ Known 0
  pub noisy_reads : Reads theirs (source_steps begun sendings) (AtMostWrong (budget false) theirs) 2 5 new_sink their_noisy
  pub noisy_answers : answers (sink_steps new_sink their_noisy) ≡ says_none WAITING ∷ says_none BADCHECK ∷ says_none WAITING ∷ says READ 4 ∷ []
  pub noisy_holds : (sink_end new_sink their_noisy).count ≡ Known 4
  pub ours_answers : answers (sink_steps new_sink ours) ≡ says_none WAITING ∷ says_none WAITING ∷ says_none WAITING ∷ says_none WAITING ∷ []
  -- the numbers by which the calls with the crooked patterns are turned back, and by which they
  -- would be with 7 bytes of output, on port 0, and with both
  pub source_told : source_refusal rule_broken (next_state (next_state begun 6) 5) 3 5 16 ≡ 14
  pub sink_told : (sink_refusal rule_broken 16 16 1 ≡ 14) × (sink_refusal rule_broken 16 7 1 ≡ 9) × (sink_refusal rule_broken 16 16 0 ≡ 10) × (sink_refusal rule_broken 16 7 0 ≡ 9)
