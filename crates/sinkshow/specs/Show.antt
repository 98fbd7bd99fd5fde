-- What the parts of the program promise. Assumes nothing.
use Rattle.std.specs.Prelude.{◌≡◌, ℕ, ◌+◌, length, take, Result, Ok, Err}
use mathlib.Core.List.{List, ◌++◌, foldl}
use Rattle.io.specs.Counts.{IsPrefixLen}
use Rattle.program_stream.specs.declared.Stop.{Stop}
use Rattle.program_stream.specs.Gather.{IsUnwritten, EndsFor, Ends}
use Rattle.gmp_settings.specs.declared.Settings.{Settings}
use Rattle.gmp_settings.specs.Settings.{new_settings}
use Rattle.gmp_frame.specs.Frame.{control_of}
use Rattle.gmp_sink.specs.Sink.{new_sink, handed, standing_after, state_after}
use Rattle.sinkshow.specs.declared.Run.{Run}
use Rattle.sinkshow.specs.declared.Shown.{Shown}
use Rattle.sinkshow.specs.declared.All.{All}
use Rattle.sinkshow.specs.Lines.{frame_line}

-- "K = 2, window 0 to 8"
abbrev pub small : Settings
small = new_settings 2 0 8

-- Text put behind the first bytes of a line, with the length then.
pub record Puts (line : List ℕ) (at : ℕ) (text : List ℕ) (r : ℕ) (after : List ℕ) : Type 0 where
  pub next : r ≡ at + length text
  pub kept : length after ≡ length line
  pub within : IsPrefixLen r after
  pub content : take r after ≡ take at line ++ text

-- a new run: a new sink, and no frame yet
abbrev pub new_run : Run
new_run = record { state = new_sink; frames = 0 }

-- a run after one frame more
abbrev pub run_after : Run → List ℕ → Run
run_after n frame = record { state = state_after small n.state (control_of small.k frame); frames = n.frames + 1 }

-- A frame taken: its line, from the start of the buffer, with "frame number from 1", and the run
-- after it.
pub record Shows (n : Run) (frame : List ℕ) (line : List ℕ) (r : Shown) (after : List ℕ) : Type 0 where
  pub made :
      Puts line 0 (frame_line (n.frames + 1) (length (handed small n.state frame)) (standing_after small n.state (control_of small.k frame))) r.length
      after
  pub next : r.after ≡ run_after n frame

-- what is gone on from: the run after the frame; or its line could not be written
abbrev pub Goes : Run → List ℕ → Result Run Stop → Type 0
Goes n frame (Ok r) = r ≡ run_after n frame
Goes n frame (Err s) = IsUnwritten s

-- and where the frame is read: the run after some frame of 16 bytes; or there is a stop, at the
-- input's end with less than a frame left
abbrev pub GoesOn : Run → Result Run Stop → Type 0
GoesOn n (Ok r) = (frame : List ℕ) × (length frame ≡ 16) × (r ≡ run_after n frame)
GoesOn n (Err s) = EndsFor 16 s.why

-- All frames: the run at the end is a new one after some frames, each once and in order. And why
-- it ended: the input did, with less than a frame left, a read or a write failed, or there are
-- 2^64 - 1 frames.
pub record ShowsAll (r : All) : Type 0 where
  pub frames : List (List ℕ)
  pub run : r.run ≡ foldl run_after new_run frames
  pub ends : Ends 18446744073709551615 r.run.frames 16 r.end
