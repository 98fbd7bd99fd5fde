-- Runs with the payload type checked (02, P4), on the grid K = 2 with the window 0 to 8: a port
-- with the right cord, one with a hit between frames numbered 0, one with a swapped cord, one whose
-- cord is swapped in service, and the swapped one with the type check off. Assumes nothing.
use Rattle.std.specs.Prelude.{◌≡◌, true, List, [], ◌∷◌, ◌++◌, ℕ, T, drop}
use Rattle.gmp_settings.specs.declared.Settings.{Settings}
use Rattle.gmp_settings.specs.Settings.{with_type_check}
use Rattle.gmp_standing.specs.declared.Count.TheVariants.{Known}
use Rattle.gmp_standing.specs.Standing.{READ, BADCHECK}
use Rattle.std.specs.Prelude.{Some, None}
use Rattle.gmp_payload_type.specs.declared.Seen.TheVariants.{Once, Twice}
use Rattle.gmp_sink.specs.declared.SinkState.{SinkState}
use Rattle.gmp_sink.specs.Sink.{new_sink}
use Rattle.claim_recovery.specs.Runs.{SinkCall, SinkStep, sink_steps, sink_end, handed_of, out_of}
use Rattle.claim_recovery.specs.Tallied.{bytes_of}
use Rattle.claim_recovery.proofs.Bytes.{are_bytes, bytes}
use Rattle.claim_worked.specs.Run.{small, wrong, room, answers, says, says_none}

-- the worked settings with the type check on
abbrev pub checks : Settings
checks = with_type_check small true

-- a frame of count 3 that announces no change, with the load 51, 52, 53 and this PSI byte; and one
-- whose control bytes fail the check
abbrev pub typed : ℕ → List ℕ
typed psi = 0 ∷ 0 ∷ 0 ∷ 0 ∷ 0 ∷ 12 ∷ 51 ∷ 0 ∷ 0 ∷ 92 ∷ 0 ∷ 52 ∷ psi ∷ 0 ∷ 0 ∷ 53 ∷ []

abbrev pub unread : ℕ → List ℕ
unread psi = 255 ∷ 255 ∷ 255 ∷ 0 ∷ 0 ∷ 255 ∷ 51 ∷ 0 ∷ 0 ∷ 255 ∷ 0 ∷ 52 ∷ psi ∷ 0 ∷ 0 ∷ 53 ∷ []

abbrev pub load : List ℕ
load = 51 ∷ 52 ∷ 53 ∷ []

-- a call of a sink that is told this multiframe number and expects type 7
abbrev pub tell : ℕ → Settings → (f : List ℕ) → T (are_bytes f) → SinkCall
tell number s f h = record { settings = s; expected = record { multiframe = number; payload_type = 7 }; frame = f; bytes = bytes f h; out = room; port = 1 }

abbrev pub handed_all : List SinkStep → List (List ℕ)
handed_all [] = []
handed_all (y ∷ ys) = handed_of y ∷ handed_all ys

abbrev pub buffers : List SinkStep → List (List ℕ)
buffers [] = []
buffers (y ∷ ys) = out_of y ∷ buffers ys

-- The right cord: frames numbered 0, 1, 256, 512 and 513 of type 7; that numbered 1 has another PSI
-- byte, which is not read. Refused calls, numbered 0 with another type, stand among them.
abbrev pub right_cord : Settings → List SinkCall
right_cord s =
    tell 0 s (typed 7) tt
    ∷ tell 1 s (typed 5) tt
    ∷ tell 256 wrong (typed 5) tt
    ∷ tell 256 s (typed 7) tt
    ∷ tell 512 wrong (typed 5) tt
    ∷ tell 512 s (typed 7) tt
    ∷ tell 513 s (typed 0) tt
    ∷ []

-- a hit in the frame numbered 257, between the second and the third frame numbered 0
abbrev pub hit_between : List SinkCall
hit_between =
    tell 0 checks (typed 7) tt
    ∷ tell 256 checks (typed 7) tt
    ∷ tell 257 checks (unread 0) tt
    ∷ tell 512 checks (typed 7) tt
    ∷ tell 513 checks (typed 0) tt
    ∷ []

-- the swapped cord: frames numbered 0, 256, 512 and 513 of another client, of type 5
abbrev pub swapped_cord : Settings → List SinkCall
swapped_cord s = tell 0 s (typed 5) tt ∷ tell 256 s (typed 5) tt ∷ tell 512 s (typed 5) tt ∷ tell 513 s (typed 0) tt ∷ []

-- A sink in service: type 7 is accepted and came last. The cord is swapped; of the first frame
-- numbered 0 the control bytes fail the check.
abbrev pub in_service : SinkState
in_service = record { count = Known 3; word = None; types = record { accepted = Some 7; seen = Twice 7 } }

abbrev pub swapped_then : List SinkCall
swapped_then =
    tell 0 checks (unread 5) tt
    ∷ tell 1 checks (typed 0) tt
    ∷ tell 256 checks (typed 5) tt
    ∷ tell 512 checks (typed 5) tt
    ∷ tell 513 checks (typed 0) tt
    ∷ []

-- another type between breaks the run
abbrev pub broken : List SinkCall
broken = tell 0 checks (typed 7) tt ∷ tell 256 checks (typed 7) tt ∷ tell 512 checks (typed 5) tt ∷ tell 768 checks (typed 7) tt ∷ []

pub record TypedRun : Type 0 where
  -- counts are followed from the first frame on; bytes come after the third frame numbered 0, and
  -- not with it
  pub right_answers : answers (sink_steps new_sink (right_cord checks)) ≡ says READ 3 ∷ says READ 3 ∷ says READ 3 ∷ says READ 3 ∷ says READ 3 ∷ []
  pub right_handed : handed_all (sink_steps new_sink (right_cord checks)) ≡ [] ∷ [] ∷ [] ∷ [] ∷ load ∷ []
  pub right_buffers : buffers (sink_steps new_sink (right_cord checks)) ≡ room ∷ room ∷ room ∷ room ∷ (load ++ drop 3 room) ∷ []
  pub right_types : (sink_end new_sink (right_cord checks)).types ≡ record { accepted = Some 7; seen = Twice 7 }
  -- the two that came before the hit count
  pub hit_answers : answers (sink_steps new_sink hit_between) ≡ says READ 3 ∷ says READ 3 ∷ says_none BADCHECK ∷ says READ 3 ∷ says READ 3 ∷ []
  pub hit_handed : handed_all (sink_steps new_sink hit_between) ≡ [] ∷ [] ∷ [] ∷ [] ∷ load ∷ []
  -- of another client's frames nothing is handed out, and nothing is tallied as handed out
  pub swapped_answers : answers (sink_steps new_sink (swapped_cord checks)) ≡ says READ 3 ∷ says READ 3 ∷ says READ 3 ∷ says READ 3 ∷ []
  pub swapped_handed : handed_all (sink_steps new_sink (swapped_cord checks)) ≡ [] ∷ [] ∷ [] ∷ [] ∷ []
  pub swapped_bytes : bytes_of (sink_steps new_sink (swapped_cord checks)) ≡ 0
  pub swapped_types : (sink_end new_sink (swapped_cord checks)).types.accepted ≡ Some 5
  -- in service the accepted type stands until the third frame of the other type
  pub service_answers : answers (sink_steps in_service swapped_then) ≡ says_none BADCHECK ∷ says READ 3 ∷ says READ 3 ∷ says READ 3 ∷ says READ 3 ∷ []
  pub service_handed : handed_all (sink_steps in_service swapped_then) ≡ load ∷ [] ∷ load ∷ load ∷ [] ∷ []
  pub service_types : (sink_end in_service swapped_then).types ≡ record { accepted = Some 5; seen = Twice 5 }
  pub broken_types : (sink_end new_sink broken).types ≡ record { accepted = None; seen = Once 7 }
  -- with the type check off the other client's bytes come with the second frame, and what is
  -- remembered of types stays
  pub off_handed : handed_all (sink_steps new_sink (swapped_cord small)) ≡ [] ∷ load ∷ load ∷ load ∷ []
  pub off_types : (sink_end in_service (swapped_cord small)).types ≡ in_service.types
