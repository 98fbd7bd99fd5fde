-- What reading and writing promise, and how a run ends. Which bytes are read no contract can say;
-- that those which were held already are not lost, doubled or moved past another is said here, and
-- that a program stops for no reason but those of `Why`. Assumes nothing.
use Rattle.std.specs.Prelude.{◌≡◌, List, [], ℕ, ◌-◌, ◌≤◌, ◌<◌, length, take, Result, Ok, Err}
use Rattle.program_keep.specs.Keep.{between}
use Rattle.program_stream.specs.declared.Why.{Why}
use Rattle.program_stream.specs.declared.Why.TheVariants.{Ended, Unread, Unwritten}
use Rattle.program_stream.specs.declared.Stop.{Stop}
use Rattle.program_stream.specs.declared.End.{End}
use Rattle.program_stream.specs.declared.End.TheVariants.{Stopped, Full}
use Rattle.program_stream.specs.declared.Held.{Held}

abbrev pub held_bytes : Held → List ℕ → List ℕ
held_bytes h block = between h.at h.end block

-- The bytes held lie within the block, and are enough.
pub record Has (least : ℕ) (h : Held) (block : List ℕ) : Type 0 where
  pub order : h.at ≤ h.end
  pub within : h.end ≤ length block
  pub enough : least ≤ h.end - h.at

-- They lie within it, and begin with those that were there before. They are enough, or the whole
-- block if it has no room for so many.
pub record Holds (old : List ℕ) (least : ℕ) (h : Held) (after : List ℕ) : Type 0 where
  pub order : h.at ≤ h.end
  pub within : h.end ≤ length after
  pub enough : least ≤ length after → least ≤ h.end - h.at
  pub whole : length after < least → h.end - h.at ≡ length after
  pub first : take (length old) (held_bytes h after) ≡ old

-- The bytes left where the input ended: as many as stand at the block's front, fewer than were
-- asked for. They begin with those that were there before.
pub record Left (old : List ℕ) (least n : ℕ) (after : List ℕ) : Type 0 where
  pub few : n < least
  pub within : n ≤ length after
  pub first : take (length old) (take n after) ≡ old

-- Why reading stops: the input ended, or a read failed.
abbrev pub StopsReading : List ℕ → ℕ → Why → List ℕ → Type 0
StopsReading old least (Ended n) after = Left old least n after
StopsReading old least Unread after = Unit
StopsReading old least Unwritten after = ⊥

-- and where what was read is written too: or a write failed
abbrev pub Stops : List ℕ → ℕ → Why → List ℕ → Type 0
Stops old least (Ended n) after = Left old least n after
Stops old least Unread after = Unit
Stops old least Unwritten after = Unit

-- What filling a block comes to.
abbrev pub Gathers : List ℕ → Result (Unit {0}) Stop → List ℕ → Type 0
Gathers block (Ok done) after = Unit
Gathers block (Err s) after = StopsReading [] (length block) s.why after

-- What asking for bytes comes to, where these were there before.
abbrev pub Holding : List ℕ → ℕ → Result Held Stop → List ℕ → Type 0
Holding old least (Ok h) after = Holds old least h after
Holding old least (Err s) after = StopsReading old least s.why after

-- behind the first bytes of a block
abbrev pub Fills : List ℕ → ℕ → ℕ → Result Held Stop → List ℕ → Type 0
Fills block have least r after = Holding (take have block) least r after

-- and behind those that it holds
abbrev pub Supplies : List ℕ → Held → ℕ → Result Held Stop → List ℕ → Type 0
Supplies block h least r after = Holding (held_bytes h block) least r after

-- a stop for a write that failed
abbrev pub IsUnwritten : Stop → Type 0
IsUnwritten s = s.why ≡ Unwritten

-- What writing comes to.
abbrev pub Writes : Result (Unit {0}) Stop → Type 0
Writes (Ok done) = Unit
Writes (Err s) = IsUnwritten s

-- How a run of frames ends, where the next one takes so many bytes: the input ended and fewer are
-- left, a read failed, a write failed, or the frames are as many as can be counted.
abbrev pub EndsFor : ℕ → Why → Type 0
EndsFor least (Ended n) = n < least
EndsFor least Unread = Unit
EndsFor least Unwritten = Unit

abbrev pub Ends : ℕ → ℕ → ℕ → End → Type 0
Ends most frames least (Stopped s) = EndsFor least s.why
Ends most frames least Full = most ≤ frames

-- the number of bytes left at a run's end, and 0 where the input did not end
abbrev pub left_for : Why → ℕ
left_for (Ended n) = n
left_for Unread = 0
left_for Unwritten = 0

abbrev pub left_of : End → ℕ
left_of (Stopped s) = left_for s.why
left_of Full = 0
