-- The source (01, "Source and rate keeper", "Settings and the frame"). Assumes nothing.
use Rattle.std.specs.Prelude.{◌≡◌, not, cond, true, List, [], ◌∷◌, ◌++◌, ℕ, ◌+◌, ◌%◌, eqb, length}
use Rattle.gmp_crc8.specs.Check.{remainder}
use Rattle.gmp_settings.specs.declared.Settings.{Settings}
use Rattle.gmp_settings.specs.Grid.{frame_bytes}
use Rattle.refusals.specs.Table.{Reason, reason, lowest, ascending, Answer, accepted, refused, answer_by}
use Rattle.gmp_refusal.specs.Refusal.{refusal_number, verdict_number}
use Rattle.gmp_settings.specs.Settings.{settings_reasons, outside}
use Rattle.gmp_settings.specs.Patterns.{bad_patterns}
use Rattle.gmp_crc8.specs.declared.WordBytes.{WordBytes}
use Rattle.gmp_control.specs.Word.{word_bytes}
use Rattle.gmp_control.specs.Pattern.{table_of}
use Rattle.gmp_control.specs.Announce.{announced}
use Rattle.gmp_frame.specs.declared.Control.{Control}
use Rattle.gmp_frame.specs.Frame.{frame}
use Rattle.gmp_source.specs.declared.SourceState.{SourceState}
use Rattle.gmp_source.specs.declared.SourceResult.{SourceResult}
use Rattle.std.specs.Prelude.{Result, Ok, Err}
use Rattle.gmp_refusal.specs.declared.Refusal.{Refusal}

-- number 5, state: "source count outside the window", for a new source: its first count; and number
-- 14 (02, P11)
abbrev pub start_reasons : Settings → ℕ → List Reason
start_reasons s first = reason 5 (outside s first) ∷ reason 14 (bad_patterns s) ∷ []

-- the lines with which the judge of a new source and that of a call begin
abbrev pub state_reasons : Settings → ℕ → List Reason
state_reasons s count = settings_reasons s ++ (reason 5 (outside s count) ∷ [])

-- why there is no new source, or 0
unfoldable pub start_refusal : Settings → ℕ → ℕ
start_refusal s first = lowest (settings_reasons s ++ start_reasons s first)

-- "Its first count is chosen by the caller inside the window (outside it: number 5), and its first
-- multiframe number is 0."
abbrev pub start_state : ℕ → ℕ → SourceState
start_state first payloadType = record { count = first; multiframe = 0; payload_type = payloadType }

-- a new source, or the number of the refusal
unfoldable pub new_source : Settings → ℕ → ℕ → Answer SourceState
new_source s first payloadType = answer_by (start_refusal s first) (start_state first payloadType)

-- the paper's number and value for each case of the answer
abbrev pub start_meaning : Result SourceState Refusal → Answer SourceState
start_meaning (Ok z) = accepted z
start_meaning (Err r) = refused (refusal_number r)

-- A call's own lines: 5, "source count outside the window"; 6, "next count outside the window"; 7,
-- "client bytes not exactly the present count"; 8, "frame buffer not exactly 4K + 8 bytes"; and 14
-- (02, P11).
abbrev pub source_reasons : Settings → SourceState → ℕ → ℕ → ℕ → List Reason
source_reasons s z next clientLength bufferLength =
    reason 5 (outside s z.count)
    ∷ reason 6 (outside s next)
    ∷ reason 7 (not (eqb clientLength z.count))
    ∷ reason 8 (not (eqb bufferLength (frame_bytes s.k)))
    ∷ reason 14 (bad_patterns s)
    ∷ []

-- why a call is turned back, or 0
unfoldable pub source_refusal : Settings → SourceState → ℕ → ℕ → ℕ → ℕ
source_refusal s z next clientLength bufferLength = lowest (settings_reasons s ++ source_reasons s z next clientLength bufferLength)

-- "the lowest number that applies is the answer": a new source is refused, and a call is turned
-- back, by the first line that applies, and the numbers of the lines ascend
pub record NumbersAscend : Type 0 where
  pub start : (s : Settings) (first : ℕ)
      → let lines = settings_reasons s ++ start_reasons s first in
      (start_refusal s first ≡ lowest lines) × (ascending 0 lines ≡ true)
  pub call : (s : Settings) (z : SourceState) (next clientLength bufferLength : ℕ)
      → let lines = settings_reasons s ++ source_reasons s z next clientLength bufferLength in
      (source_refusal s z next clientLength bufferLength ≡ lowest lines) × (ascending 0 lines ≡ true)

-- The multiframe number is 0 to 255; a larger number in a state is taken modulo 256.
abbrev pub multiframe_number : SourceState → ℕ
multiframe_number z = z.multiframe % 256

-- the PSI byte: "the payload type where the multiframe number .. is 0, else zero"
abbrev pub psi : SourceState → ℕ
psi z = cond (eqb (multiframe_number z) 0) z.payload_type 0

-- JC1 to JC3 of a word: its two bytes and their remainder
abbrev pub with_check : WordBytes → Control
with_check w = record { jc1 = w.jc1; jc2 = w.jc2; jc3 = remainder w.jc1 w.jc2 }

-- the control bytes in a frame of count old that announce the count next
unfoldable pub control_bytes : Settings → ℕ → ℕ → Control
control_bytes s old next = with_check (word_bytes (announced (table_of s) old next))

-- the frame: the client bytes at the places of the present count, and the word that announces the
-- next
unfoldable pub written : Settings → SourceState → ℕ → List ℕ → List ℕ
written s z next client = frame s.k client (control_bytes s z.count next) (psi z)

-- "afterwards the next count is the present one and the number has moved": 0 after 255
abbrev pub next_state : SourceState → ℕ → SourceState
next_state z next = record { count = next; multiframe = (multiframe_number z + 1) % 256; payload_type = z.payload_type }

-- the state after a call: a refused call returns the state it was given
unfoldable pub source_state : Settings → SourceState → ℕ → List ℕ → List ℕ → SourceState
source_state s z next client buffer = cond (eqb (source_refusal s z next (length client) (length buffer)) 0) (next_state z next) z

-- the frame buffer after a call: a refused call leaves it as it was
unfoldable pub source_frame : Settings → SourceState → ℕ → List ℕ → List ℕ → List ℕ
source_frame s z next client buffer = cond (eqb (source_refusal s z next (length client) (length buffer)) 0) (written s z next client) buffer

-- What a call promises: the number of its verdict, the new state, and every byte of the frame
-- buffer.
pub record SourcePromise (s : Settings) (z : SourceState) (next : ℕ) (client buffer : List ℕ) (r : SourceResult) (after : List ℕ) : Type 0 where
  pub refusal : verdict_number r.answer ≡ source_refusal s z next (length client) (length buffer)
  pub state : r.state ≡ source_state s z next client buffer
  pub frame_buffer : after ≡ source_frame s z next client buffer
