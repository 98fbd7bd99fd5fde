-- A run with mending on (02, P1), on the grid K = 2 with the window 0 to 8: the frames of Run.antt,
-- some with a wrong control bit, read by a new sink and by one in step with the source, with
-- mending on and off, and one frame with two wrong bits. Assumes nothing.
use Rattle.std.specs.Prelude.{◌≡◌, Bool, true, false, List, [], ◌∷◌, map, ℕ}
use Rattle.gmp_crc8.specs.Claims.{budget}
use Rattle.gmp_settings.specs.declared.Settings.{Settings}
use Rattle.gmp_settings.specs.Settings.{with_mending}
use Rattle.gmp_standing.specs.declared.Count.TheVariants.{Known}
use Rattle.gmp_standing.specs.Standing.{READ, TRACKED, PAIRED, BADCHECK, WAITING}
use Rattle.std.specs.Prelude.{Some, None}
use Rattle.gmp_control.specs.Word.{word_by}
use Rattle.gmp_payload_type.specs.Types.{new_types}
use Rattle.gmp_sink.specs.declared.SinkState.{SinkState}
use Rattle.gmp_sink.specs.Sink.{new_sink}
use Rattle.claim_recovery.specs.Runs.{SourceCall, SinkCall, SinkStep, source_steps, sink_steps, sink_end, mended_of}
use Rattle.claim_recovery.specs.Demand.{SourceRun, Reads, AtMostWrong}
use Rattle.claim_recovery.specs.Mended.{OneWrong, Held, flagged_call}
use Rattle.claim_recovery.specs.Tallied.{bad_frames_of}
use Rattle.claim_worked.specs.Run.{small, wrong, room, source, calls, frame1, frame2, frame3, frame4, frame5, frame6, lend, frames, answers, says, says_none}

-- the settings of all, and the calls of Run.antt's source with them
abbrev pub mends : Settings
mends = with_mending small true

abbrev pub sendings : List SourceCall
sendings = map (flagged_call (record { mending = true; type_check = false })) calls

-- frame 2 with a wrong bit in JC1, frame 3 with one in JC2, frame 5 with one in JC3, and frame 4
-- with two
abbrev pub bit2 : List ℕ
bit2 = 0 ∷ 70 ∷ 0 ∷ 21 ∷ 0 ∷ 118 ∷ 0 ∷ 22 ∷ 0 ∷ 25 ∷ 0 ∷ 23 ∷ 0 ∷ 0 ∷ 0 ∷ 24 ∷ []

abbrev pub bit3 : List ℕ
bit3 = 0 ∷ 85 ∷ 0 ∷ 31 ∷ 0 ∷ 76 ∷ 32 ∷ 33 ∷ 0 ∷ 147 ∷ 0 ∷ 34 ∷ 0 ∷ 0 ∷ 35 ∷ 36 ∷ []

abbrev pub bit5 : List ℕ
bit5 = 0 ∷ 0 ∷ 0 ∷ 0 ∷ 0 ∷ 12 ∷ 51 ∷ 0 ∷ 0 ∷ 220 ∷ 0 ∷ 52 ∷ 0 ∷ 0 ∷ 0 ∷ 53 ∷ []

abbrev pub bits4 : List ℕ
bits4 = 0 ∷ 25 ∷ 0 ∷ 41 ∷ 0 ∷ 140 ∷ 0 ∷ 42 ∷ 0 ∷ 80 ∷ 43 ∷ 0 ∷ 0 ∷ 0 ∷ 44 ∷ 45 ∷ []

-- a sink with these settings reads frames 1 to 6, some with one wrong bit, with a refused call
abbrev pub hearings : Settings → List SinkCall
hearings s =
    lend s frame1 tt room
    ∷ lend s bit2 tt room
    ∷ lend wrong bit2 tt room
    ∷ lend s bit3 tt room
    ∷ lend s frame4 tt room
    ∷ lend s bit5 tt room
    ∷ lend s frame6 tt room
    ∷ []

-- a sink in step with the source before frame 1
abbrev pub in_step : SinkState
in_step = record { count = Known 3; word = None; types = new_types }

-- the first two of them
abbrev pub first_two : List SinkCall
first_two = lend mends frame1 tt room ∷ lend mends bit2 tt room ∷ []

-- a sink reads frames 2 to 5, one of them with two wrong bits
abbrev pub harder : List SinkCall
harder = lend mends bit2 tt room ∷ lend mends bit3 tt room ∷ lend mends bits4 tt room ∷ lend mends bit5 tt room ∷ []

-- which calls mended a bit
abbrev pub mendings : List SinkStep → List Bool
mendings [] = []
mendings (y ∷ ys) = mended_of y ∷ mendings ys

-- The hypotheses of the claims hold of these runs: of the new sink that hunts, of the sink in step,
-- and of the second claim. They go so.
pub record MendedRun : Type 0 where
  pub source_run : SourceRun mends source sendings
  pub written : frames (source_steps source sendings) ≡ frame1 ∷ frame2 ∷ frame3 ∷ frame4 ∷ frame5 ∷ frame6 ∷ []
  -- with mending on the wrong bits cost nothing, and no frame counts as BADCHECK
  pub on_reads : Reads mends (source_steps source sendings) (OneWrong mends) 1 6 new_sink (hearings mends)
  pub on_answers : answers (sink_steps new_sink (hearings mends)) ≡ says_none WAITING ∷ says PAIRED 6 ∷ says TRACKED 5 ∷ says TRACKED 3 ∷ says READ 3 ∷ says READ 7 ∷ []
  pub on_mended : mendings (sink_steps new_sink (hearings mends)) ≡ false ∷ true ∷ true ∷ false ∷ true ∷ false ∷ []
  pub on_bad : bad_frames_of (sink_steps new_sink (hearings mends)) ≡ 0
  pub on_holds : (sink_end new_sink (hearings mends)).count ≡ Known 7
  -- the word that is remembered of frame 2 is the mended one, that which was written
  pub remembers : (sink_end new_sink first_two).word ≡ Some (word_by 102 118)
  -- a sink in step stays so; with mending off a wrong bit puts it back to hunting
  pub step_holds : Held (source_steps source sendings) 1 in_step
  pub step_reads : Reads mends (source_steps source sendings) (OneWrong mends) 1 6 in_step (hearings mends)
  pub step_answers : answers (sink_steps in_step (hearings mends)) ≡ says TRACKED 4 ∷ says TRACKED 6 ∷ says TRACKED 5 ∷ says TRACKED 3 ∷ says READ 3 ∷ says READ 7 ∷ []
  pub off_answers : answers (sink_steps in_step (hearings small)) ≡ says TRACKED 4 ∷ says_none BADCHECK ∷ says_none BADCHECK ∷ says_none WAITING ∷ says_none BADCHECK ∷ says READ 7 ∷ []
  pub off_mended : mendings (sink_steps in_step (hearings small)) ≡ false ∷ false ∷ false ∷ false ∷ false ∷ false ∷ []
  pub off_bad : bad_frames_of (sink_steps in_step (hearings small)) ≡ 3
  -- two wrong bits are not mended
  pub two_reads : Reads mends (source_steps source sendings) (AtMostWrong (budget true) mends) 2 5 new_sink harder
  pub two_answers : answers (sink_steps new_sink harder) ≡ says_none WAITING ∷ says PAIRED 5 ∷ says_none BADCHECK ∷ says READ 3 ∷ []
  pub two_mended : mendings (sink_steps new_sink harder) ≡ true ∷ true ∷ false ∷ true ∷ []
