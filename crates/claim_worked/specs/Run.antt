-- A run on the grid K = 2 with the window 0 to 8: a source with steps of every size, read by a new
-- sink, by a sink that knows a false count and a false word, and by a new sink over a hit; refused
-- calls stand in all. The three share a card, call in turn, and each has a port of its own; the
-- last one moves to another. Assumes nothing.
use Rattle.std.specs.Prelude.{◌≡◌, false, List, [], ◌∷◌, ℕ, T, replicate}
use Rattle.gmp_crc8.specs.Claims.{budget}
use Rattle.gmp_settings.specs.declared.Settings.{Settings}
use Rattle.gmp_settings.specs.Settings.{new_settings}
use Rattle.refusals.specs.Table.{Answer, accepted}
use Rattle.gmp_standing.specs.declared.Count.TheVariants.{Known, Unknown}
use Rattle.gmp_standing.specs.Standing.{Finding, finding, READ, TRACKED, PAIRED, BADCHECK, WAITING}
use Rattle.std.specs.Prelude.{Some}
use Rattle.gmp_payload_type.specs.declared.Expected.{Expected}
use Rattle.gmp_payload_type.specs.Types.{new_types}
use Rattle.gmp_source.specs.declared.SourceState.{SourceState}
use Rattle.ports.specs.Port.{ports}
use Rattle.card_tally.specs.declared.Tally.{Tally}
use Rattle.card_tally.specs.declared.Tallies.{Tallies}
use Rattle.card_tally.specs.Tally.{largest}
use Rattle.card_tally.specs.Ports.{no_tally, new_tallies, total_of}
use Rattle.gmp_sink.specs.declared.SinkState.{SinkState}
use Rattle.gmp_sink.specs.Sink.{new_sink}
use Rattle.claim_recovery.specs.Runs.{SourceCall, SinkCall, SourceStep, SinkStep, sink_after, source_steps, sink_steps, sink_end, frame_of, answer_of}
use Rattle.claim_recovery.specs.Demand.{SourceRun, Reads, Unharmed, AtMostWrong}
use Rattle.claim_recovery.specs.Tallied.{tallies_end}
use Rattle.claim_recovery.proofs.Bytes.{are_bytes, bytes}

-- the settings of all, and others that number 1 turns back
abbrev pub small : Settings
small = new_settings 2 0 8

abbrev pub wrong : Settings
wrong = new_settings 0 0 8

-- a buffer of a frame's length
abbrev pub room : List ℕ
room = 9 ∷ 9 ∷ 9 ∷ 9 ∷ 9 ∷ 9 ∷ 9 ∷ 9 ∷ 9 ∷ 9 ∷ 9 ∷ 9 ∷ 9 ∷ 9 ∷ 9 ∷ 9 ∷ []

abbrev pub send : Settings → ℕ → List ℕ → SourceCall
send s next client = record { settings = s; next = next; client = client; buffer = room }

-- A source of count 3: +1, refused (grid), +2, -1, refused (count), -2, 0, and to 7.
abbrev pub source : SourceState
source = record { count = 3; multiframe = 0; payload_type = 7 }

abbrev pub calls : List SourceCall
calls =
    send small 4 (11 ∷ 12 ∷ 13 ∷ [])
    ∷ send wrong 4 (11 ∷ 12 ∷ 13 ∷ 14 ∷ [])
    ∷ send small 6 (21 ∷ 22 ∷ 23 ∷ 24 ∷ [])
    ∷ send small 5 (31 ∷ 32 ∷ 33 ∷ 34 ∷ 35 ∷ 36 ∷ [])
    ∷ send small 9 (41 ∷ 42 ∷ 43 ∷ 44 ∷ 45 ∷ [])
    ∷ send small 3 (41 ∷ 42 ∷ 43 ∷ 44 ∷ 45 ∷ [])
    ∷ send small 3 (51 ∷ 52 ∷ 53 ∷ [])
    ∷ send small 7 (61 ∷ 62 ∷ 63 ∷ [])
    ∷ []

-- the six frames that it writes
abbrev pub frame1 : List ℕ
frame1 = 0 ∷ 170 ∷ 0 ∷ 0 ∷ 0 ∷ 166 ∷ 11 ∷ 0 ∷ 0 ∷ 10 ∷ 0 ∷ 12 ∷ 7 ∷ 0 ∷ 0 ∷ 13 ∷ []

abbrev pub frame2 : List ℕ
frame2 = 0 ∷ 102 ∷ 0 ∷ 21 ∷ 0 ∷ 118 ∷ 0 ∷ 22 ∷ 0 ∷ 25 ∷ 0 ∷ 23 ∷ 0 ∷ 0 ∷ 0 ∷ 24 ∷ []

abbrev pub frame3 : List ℕ
frame3 = 0 ∷ 85 ∷ 0 ∷ 31 ∷ 0 ∷ 77 ∷ 32 ∷ 33 ∷ 0 ∷ 147 ∷ 0 ∷ 34 ∷ 0 ∷ 0 ∷ 35 ∷ 36 ∷ []

abbrev pub frame4 : List ℕ
frame4 = 0 ∷ 153 ∷ 0 ∷ 41 ∷ 0 ∷ 141 ∷ 0 ∷ 42 ∷ 0 ∷ 80 ∷ 43 ∷ 0 ∷ 0 ∷ 0 ∷ 44 ∷ 45 ∷ []

abbrev pub frame5 : List ℕ
frame5 = 0 ∷ 0 ∷ 0 ∷ 0 ∷ 0 ∷ 12 ∷ 51 ∷ 0 ∷ 0 ∷ 92 ∷ 0 ∷ 52 ∷ 0 ∷ 0 ∷ 0 ∷ 53 ∷ []

abbrev pub frame6 : List ℕ
frame6 = 0 ∷ 0 ∷ 0 ∷ 0 ∷ 0 ∷ 31 ∷ 61 ∷ 0 ∷ 0 ∷ 155 ∷ 0 ∷ 62 ∷ 0 ∷ 0 ∷ 0 ∷ 63 ∷ []

-- the payload type is not checked, and what the sink is told of a frame is not looked at
abbrev pub untold : Expected
untold = record { multiframe = 0; payload_type = 0 }

-- a call of a sink on port p, and on port 1
abbrev pub lend_on : ℕ → Settings → (f : List ℕ) → T (are_bytes f) → List ℕ → SinkCall
lend_on p s f h out = record { settings = s; expected = untold; frame = f; bytes = bytes f h; out = out; port = p }

abbrev pub lend : Settings → (f : List ℕ) → T (are_bytes f) → List ℕ → SinkCall
lend = lend_on 1

-- A new sink from frame 1 to 6, with refused calls: the grid, port 0, 7 bytes of output where hi is
-- 8, and port 9.
abbrev pub from_first : List SinkCall
from_first =
    lend small frame1 tt room
    ∷ lend wrong frame1 tt room
    ∷ lend_on 0 small frame1 tt room
    ∷ lend small frame2 tt room
    ∷ lend small frame1 tt (1 ∷ 2 ∷ 3 ∷ 4 ∷ 5 ∷ 6 ∷ 7 ∷ [])
    ∷ lend small frame3 tt room
    ∷ lend small frame4 tt room
    ∷ lend_on 9 small frame5 tt room
    ∷ lend small frame5 tt room
    ∷ lend small frame6 tt room
    ∷ []

-- A sink with a false count and a false word from frame 2 to 6, on port 5.
abbrev pub lost : SinkState
lost = record { count = Known 7; word = Some 21845; types = new_types }

abbrev pub from_any : List SinkCall
from_any =
    lend_on 5 small frame2 tt room
    ∷ lend_on 5 small frame3 tt room
    ∷ lend_on 5 small [] tt room
    ∷ lend_on 5 small frame4 tt room
    ∷ lend_on 5 small frame5 tt room
    ∷ lend_on 5 small frame6 tt room
    ∷ []

-- A hit: frame 3 with one wrong bit in each control byte, and frame 5 with nothing whole but its
-- control bytes.
abbrev pub hit3 : List ℕ
hit3 = 0 ∷ 84 ∷ 0 ∷ 31 ∷ 0 ∷ 76 ∷ 32 ∷ 33 ∷ 0 ∷ 146 ∷ 0 ∷ 34 ∷ 0 ∷ 0 ∷ 35 ∷ 36 ∷ []

abbrev pub hit5 : List ℕ
hit5 = 255 ∷ 0 ∷ 255 ∷ 255 ∷ 255 ∷ 12 ∷ 255 ∷ 255 ∷ 255 ∷ 92 ∷ 255 ∷ 255 ∷ 255 ∷ 255 ∷ 255 ∷ 255 ∷ []

-- A new sink from frame 2 to 5, over the hit, on port 8 and at last on port 3.
abbrev pub noisy : List SinkCall
noisy =
    lend_on 8 small frame2 tt room
    ∷ lend_on 8 small hit3 tt room
    ∷ lend_on 8 wrong frame3 tt room
    ∷ lend_on 8 small frame4 tt room
    ∷ lend_on 3 small hit5 tt room
    ∷ []

-- all calls of a sink from the state z, refused ones too, each with the state that it was given
abbrev pub made : SinkState → List SinkCall → List SinkStep
made z [] = []
made z (c ∷ cs) = let y : SinkStep = record { call = c; state = z } in y ∷ made (sink_after y) cs

-- calls in turn, one of the first list and one of the second
abbrev pub in_turn : List SinkStep → List SinkStep → List SinkStep
in_turn [] ys = ys
in_turn (x ∷ xs) [] = x ∷ xs
in_turn (x ∷ xs) (y ∷ ys) = x ∷ y ∷ in_turn xs ys

-- the calls of the three on one card
abbrev pub on_card : List SinkStep
on_card = in_turn (made new_sink from_first) (in_turn (made lost from_any) (made new_sink noisy))

abbrev pub tally : ℕ → ℕ → ℕ → Tally
tally frames bad bytes = record { frames = frames; badcheck = bad; bytes = bytes }

-- the largest numbers on every port
abbrev pub full_card : Tallies
full_card = record { ports = replicate ports (tally largest largest largest) }

abbrev pub frames : List SourceStep → List (List ℕ)
frames [] = []
frames (x ∷ xs) = frame_of x ∷ frames xs

abbrev pub answers : List SinkStep → List (Answer Finding)
answers [] = []
answers (y ∷ ys) = answer_of y ∷ answers ys

abbrev pub says : List ℕ → ℕ → Answer Finding
says name n = accepted (finding name (Known n))

abbrev pub says_none : List ℕ → Answer Finding
says_none name = accepted (finding name Unknown)

-- The hypotheses of demand 3 hold of these runs, and they go so.
pub record WorkedRun : Type 0 where
  pub source_run : SourceRun small source calls
  pub written : frames (source_steps source calls) ≡ frame1 ∷ frame2 ∷ frame3 ∷ frame4 ∷ frame5 ∷ frame6 ∷ []
  pub new_reads : Reads small (source_steps source calls) Unharmed 1 6 new_sink from_first
  pub new_answers : answers (sink_steps new_sink from_first) ≡ says_none WAITING ∷ says PAIRED 6 ∷ says TRACKED 5 ∷ says TRACKED 3 ∷ says READ 3 ∷ says READ 7 ∷ []
  pub new_holds : (sink_end new_sink from_first).count ≡ Known 7
  pub lost_reads : Reads small (source_steps source calls) Unharmed 2 6 lost from_any
  pub lost_answers : answers (sink_steps lost from_any) ≡ says_none WAITING ∷ says PAIRED 5 ∷ says TRACKED 3 ∷ says READ 3 ∷ says READ 7 ∷ []
  pub lost_holds : (sink_end lost from_any).count ≡ Known 7
  pub noisy_reads : Reads small (source_steps source calls) (AtMostWrong (budget false) small) 2 5 new_sink noisy
  pub noisy_answers : answers (sink_steps new_sink noisy) ≡ says_none WAITING ∷ says_none BADCHECK ∷ says_none WAITING ∷ says READ 3 ∷ []
  pub noisy_holds : (sink_end new_sink noisy).count ≡ Known 3
  -- each port has the frames, BADCHECK frames and bytes of its own accepted calls, and the total is
  -- their sum; that of full tallies exceeds 32 bits
  pub tallies : tallies_end new_tallies on_card
      ≡ record { ports = tally 6 0 17 ∷ no_tally ∷ tally 1 0 0 ∷ no_tally ∷ tally 5 0 18 ∷ no_tally ∷ no_tally ∷ tally 3 1 0 ∷ [] }
  pub total : total_of (tallies_end new_tallies on_card) ≡ record { frames = 15; badcheck = 1; bytes = 35 }
  pub full_total : total_of full_card ≡ record { frames = 34359738360; badcheck = 34359738360; bytes = 34359738360 }
