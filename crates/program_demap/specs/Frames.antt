-- What a frame comes to: the paper's sink with the tally of its port, at OPU0's size, with mending
-- or without, and with the type check or without. Assumes nothing.
use Rattle.std.specs.Prelude.{◌≡◌, List, ℕ, ◌+◌, ◌%◌, length, take}
use Rattle.io.specs.Counts.{IsPrefixLen}
use Rattle.gmp_settings.specs.declared.Settings.{Settings}
use Rattle.gmp_settings.specs.Settings.{with_mending, with_type_check, opu0}
use Rattle.gmp_standing.specs.Standing.{Finding, standing_meaning, standing_number}
use Rattle.gmp_payload_type.specs.declared.Expected.{Expected}
use Rattle.gmp_frame.specs.declared.Control.{Control}
use Rattle.gmp_frame.specs.Frame.{control_of}
use Rattle.card_tally.specs.Tally.{added}
use Rattle.gmp_sink.specs.Sink.{new_sink, released, standing_after, frame_after, mended_in}
use Rattle.card_promise.specs.Card.{bad_frames}
use Rattle.program_demap.specs.declared.Wanted.{Wanted}
use Rattle.program_demap.specs.declared.Demapper.{Demapper}
use Rattle.program_demap.specs.declared.Taken.{Taken}

-- the settings of OPU0, with what the arguments ask for
abbrev pub settings_of : Wanted → Settings
settings_of w = with_type_check (with_mending opu0 w.mending) w.type_check

-- what the sink is told of a frame: the number that the program gives it, and the type that the
-- arguments expect
abbrev pub expected_of : Wanted → Demapper → Expected
expected_of w d = record { multiframe = d.multiframe; payload_type = w.payload_type }

-- the control bytes of a frame
abbrev pub control : List ℕ → Control
control frame = control_of 3808 frame

-- the standing that a frame leads to, and the client bytes that it hands out
abbrev pub standing_of : Wanted → Demapper → List ℕ → Finding
standing_of w d frame = standing_after (settings_of w) d.state (control frame)

abbrev pub handed_bytes : Wanted → Demapper → List ℕ → List ℕ
handed_bytes w d frame = released (settings_of w) d.state (expected_of w d) frame

-- a new sink, with nothing tallied and no standing yet; its first frame is numbered 0
abbrev pub new_demapper : Demapper
new_demapper = record { state = new_sink; tally = record { frames = 0; badcheck = 0; bytes = 0 }; last = 0; multiframe = 0 }

-- the number after a multiframe number: 0 after 255
abbrev pub number_after : ℕ → ℕ
number_after n = (n % 256 + 1) % 256

-- the demapper after a frame
abbrev pub demapper_after : Wanted → Demapper → List ℕ → Demapper
demapper_after w d frame =
    record {
      state = frame_after (settings_of w) d.state (expected_of w d) frame;
      tally = added d.tally 1 (bad_frames (standing_of w d frame)) (length (handed_bytes w d frame));
      last = standing_number (standing_of w d frame).name;
      multiframe = number_after d.multiframe;
    }

-- A frame taken: its standing, whether a bit was mended, the demapper after it, and the client
-- bytes at the start of the output buffer, with their number.
pub record Takes (w : Wanted) (d : Demapper) (frame : List ℕ) (r : Taken) (out : List ℕ) : Type 0 where
  pub standing : standing_meaning r.standing ≡ standing_of w d frame
  pub mended : r.mended ≡ mended_in (settings_of w) (control frame)
  pub after : r.after ≡ demapper_after w d frame
  pub length_is : r.handed ≡ length (handed_bytes w d frame)
  pub within : IsPrefixLen r.handed out
  pub bytes : take r.handed out ≡ handed_bytes w d frame
