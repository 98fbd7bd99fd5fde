-- What the program maps: load after load of the paper's source. Assumes nothing.
use Rattle.std.specs.Prelude.{◌≡◌, ℕ, zero, suc, ◌+◌, ◌-◌, ◌*◌, ◌%◌, ◌<◌, ◌≤◌, ◌⊎◌, List, [], ◌++◌, length, take, drop, Result, Ok, Err}
use Rattle.gmp_settings.specs.Settings.{opu0}
use Rattle.gmp_source.specs.Source.{written}
use Rattle.program_stream.specs.declared.Held.{Held}
use Rattle.program_stream.specs.declared.Stop.{Stop}
use Rattle.program_stream.specs.Gather.{held_bytes, IsUnwritten, Stops, Ends}
use Rattle.program_map.specs.declared.Rate.{Rate}
use Rattle.program_map.specs.declared.Mapper.{Mapper}
use Rattle.program_map.specs.Frames.{count_from, Ready, mapped}
use Rattle.odu0map.specs.declared.Totals.{Totals}
use Rattle.odu0map.specs.declared.Batch.{Batch}

-- the mapper after n frames, one after the other, and the client bytes that they carry
unfoldable pub mapper_after : Rate → Mapper → ℕ → Mapper
mapper_after a m zero = m
mapper_after a m (suc n) = mapped a (mapper_after a m n)

unfoldable pub bytes_after : Rate → Mapper → ℕ → ℕ
bytes_after a m zero = 0
bytes_after a m (suc n) = bytes_after a m n + (mapper_after a m n).source.count

-- the load behind n loads of a client's bytes, and its frame
abbrev pub load_at : Rate → Mapper → List ℕ → ℕ → List ℕ
load_at a m client n = take (mapper_after a m n).source.count (drop (bytes_after a m n) client)

abbrev pub frame_at : Rate → Mapper → List ℕ → ℕ → List ℕ
frame_at a m client n = written opu0 (mapper_after a m n).source (count_from a (mapper_after a m n).remainder) (load_at a m client n)

-- the frames of the first n loads of a client's bytes
unfoldable pub frames_after : Rate → Mapper → List ℕ → ℕ → List ℕ
frames_after a m client zero = []
frames_after a m client (suc n) = frames_after a m client n ++ frame_at a m client n

-- Loads mapped: the mapper after them, which goes on, and the client bytes that they took. No whole
-- load is left, but behind 16 of them.
pub record Batched (a : Rate) (m : Mapper) (client : List ℕ) (r : Batch) : Type 0 where
  pub mapper : r.mapper ≡ mapper_after a m r.frames
  pub ready : Ready a r.mapper
  pub bytes : r.bytes ≡ bytes_after a m r.frames
  pub within : r.bytes ≤ length client
  pub few : r.frames ≤ 16
  pub all : (r.frames ≡ 16) ⊎ (length client - r.bytes < r.mapper.source.count)

-- and every byte of their frames
pub record MapsLoads (a : Rate) (m : Mapper) (client : List ℕ) (r : Batch) (frames : List ℕ) : Type 0 where
  pub batch : Batched a m client r
  pub frame_bytes : take (15240 * r.frames) frames ≡ frames_after a m client r.frames

-- What is gone on from, where these client bytes were held: one load or more is mapped, and the
-- bytes behind are held on. Or a write failed.
abbrev pub Goes : Rate → Mapper → List ℕ → Result (Batch × Held) Stop → List ℕ → Type 0
Goes a m client (Ok (r, h)) block = Batched a m client r × (0 < r.frames) × (held_bytes h block ≡ drop r.bytes client)
Goes a m client (Err s) block = IsUnwritten s

-- and where more is read: the client bytes begin with those that were held before. Or there is a
-- stop, at the input's end with less than a load left.
abbrev pub GoesOn : Rate → Mapper → List ℕ → Result (Batch × Held) Stop → List ℕ → Type 0
GoesOn a m old (Ok (r, h)) block = (client : List ℕ) × (take (length old) client ≡ old) × Goes a m client (Ok (r, h)) block
GoesOn a m old (Err s) block = Stops old m.source.count s.why block

-- What is told at the end: so many frames carry so many client bytes, modulo 2^64. And why the run
-- ended: the input did, with less left than the next load, a read or a write failed, or there are
-- 2^64 - 17 frames or more.
pub record Counts (a : Rate) (m : Mapper) (r : Totals) : Type 0 where
  pub bytes : r.bytes ≡ bytes_after a m r.frames % 18446744073709551616
  pub ends : Ends 18446744073709551599 r.frames (mapper_after a m r.frames).source.count r.end
