-- What the program takes: frame after frame, each once and in order. Assumes nothing.
use Rattle.std.specs.Prelude.{◌≡◌, Bool, true, false, ◌&&◌, ◌⊎◌, ℕ, zero, suc, ◌+◌, ◌-◌, ◌*◌, ◌≤◌, ◌<◌, length, take, drop, Option, Some, None, Result, Ok, Err}
use mathlib.Core.List.{List, [], ◌∷◌, ◌++◌, foldl}
use Rattle.io.specs.Counts.{IsPrefixLen}
use Rattle.gmp_standing.specs.declared.Standing.{Standing}
use Rattle.gmp_standing.specs.Standing.{standing_meaning}
use Rattle.gmp_sink.specs.Sink.{mended_in}
use Rattle.program_demap.specs.declared.Wanted.{Wanted}
use Rattle.program_demap.specs.declared.Demapper.{Demapper}
use Rattle.program_demap.specs.Frames.{settings_of, control, standing_of, handed_bytes, new_demapper, demapper_after}
use Rattle.program_told.specs.Told.{nothing_to_tell}
use Rattle.program_stream.specs.declared.Held.{Held}
use Rattle.program_stream.specs.declared.Stop.{Stop}
use Rattle.program_stream.specs.Gather.{held_bytes, IsUnwritten, Stops, Ends}
use Rattle.odu0demap.specs.declared.Run.{Run}
use Rattle.odu0demap.specs.declared.Demapped.{Demapped}

-- all frames: the demapper at the end is a new one after some frames, each once and in order
abbrev pub Demaps : Wanted → Demapper → List (List ℕ) → Type 0
Demaps w d frames = d ≡ foldl (demapper_after w) new_demapper frames

-- And why the run ended: the input did, with less than a frame left, a read or a write failed, or
-- there are 2^64 - 17 frames or more.
pub record DemapsAll (w : Wanted) (r : Demapped) : Type 0 where
  pub frames : List (List ℕ)
  pub demapper : Demaps w r.demapper frames
  pub ends : Ends 18446744073709551599 (length frames) 15240 r.end

-- the frame behind the first n frames of some bytes, and these n
abbrev pub frame_at : ℕ → List ℕ → List ℕ
frame_at n bytes = take 15240 (drop (15240 * n) bytes)

unfoldable pub frames_in : ℕ → List ℕ → List (List ℕ)
frames_in zero bytes = []
frames_in (suc n) bytes = frames_in n bytes ++ (frame_at n bytes ∷ [])

-- Over frames, one after the other: the demapper after them, the client bytes that they hand out,
-- and that nothing is to be told of any.
abbrev pub demapper_over : Wanted → Demapper → List (List ℕ) → Demapper
demapper_over w d frames = foldl (demapper_after w) d frames

unfoldable pub handed_over : Wanted → Demapper → List (List ℕ) → List ℕ
handed_over w d [] = []
handed_over w d (f ∷ fs) = handed_bytes w d f ++ handed_over w (demapper_after w d f) fs

unfoldable pub nothing_to_tell_of : Wanted → Demapper → List (List ℕ) → Bool
nothing_to_tell_of w d [] = true
nothing_to_tell_of w d (f ∷ fs) = nothing_to_tell w d f && nothing_to_tell_of w (demapper_after w d f) fs

-- A frame of which something is to be told, behind n frames of which nothing is: the demapper
-- before it, its standing, and whether it was mended.
pub record Tells (w : Wanted) (d : Demapper) (bytes : List ℕ) (n : ℕ) (before : Demapper) (s : Standing) (m : Bool) : Type 0 where
  pub earlier : nothing_to_tell_of w d (frames_in n bytes) ≡ true
  pub demapper : before ≡ demapper_over w d (frames_in n bytes)
  pub tells_it : nothing_to_tell w before (frame_at n bytes) ≡ false
  pub standing : standing_meaning s ≡ standing_of w before (frame_at n bytes)
  pub mended : m ≡ mended_in (settings_of w) (control (frame_at n bytes))

-- What is to be told of the first n frames: something of the last only, or nothing of any, where no
-- whole frame is left or they are 16.
abbrev pub Telling : Wanted → Demapper → List ℕ → ℕ → Demapper → Option (Standing × Bool) → Type 0
Telling w d bytes n before None = (nothing_to_tell_of w d (frames_in n bytes) ≡ true) × ((n ≡ 16) ⊎ (length bytes - 15240 * n < 15240))
Telling w d bytes n before (Some (s, m)) = (k : ℕ) × (n ≡ k + 1) × Tells w d bytes k before s m

-- Frames taken one after the other, as above: the demapper after them, and the client bytes, all
-- and in order, at the start of the output buffer, with their number.
pub record Runs (w : Wanted) (d : Demapper) (bytes : List ℕ) (r : Run) (out : List ℕ) : Type 0 where
  pub few : r.frames ≤ 16
  pub whole : 15240 * r.frames ≤ length bytes
  pub after : r.after ≡ demapper_over w d (frames_in r.frames bytes)
  pub within : IsPrefixLen r.handed out
  pub handed : take r.handed out ≡ handed_over w d (frames_in r.frames bytes)
  pub told : Telling w d bytes r.frames r.before r.told

-- What is gone on from, where these bytes were held: one frame or more is taken, and the bytes
-- behind are held on. Or a write failed.
pub record TakesFrames (w : Wanted) (d : Demapper) (bytes : List ℕ) (r : Demapper) (n : ℕ) (behind : List ℕ) : Type 0 where
  pub some : 0 < n
  pub few : n ≤ 16
  pub whole : 15240 * n ≤ length bytes
  pub after : r ≡ demapper_over w d (frames_in n bytes)
  pub held : behind ≡ drop (15240 * n) bytes

abbrev pub Goes : Wanted → Demapper → List ℕ → Result (Demapper × ℕ × Held) Stop → List ℕ → Type 0
Goes w d bytes (Ok (r, n, h)) block = TakesFrames w d bytes r n (held_bytes h block)
Goes w d bytes (Err s) block = IsUnwritten s

-- and where more is read: the bytes begin with those that were held before. Or there is a stop, at
-- the input's end with less than a frame left.
abbrev pub GoesOn : Wanted → Demapper → List ℕ → Result (Demapper × ℕ × Held) Stop → List ℕ → Type 0
GoesOn w d old (Ok (r, n, h)) block = (bytes : List ℕ) × (take (length old) bytes ≡ old) × Goes w d bytes (Ok (r, n, h)) block
GoesOn w d old (Err s) block = Stops old 15240 s.why block
