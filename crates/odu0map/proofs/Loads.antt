-- From load to load, and from batch to batch. Assumes nothing.
use Rattle.std.proofs.Common.{◌≡◌, ℕ, zero, suc, ◌+◌, ◌-◌, ◌*◌, ◌%◌, ◌<◌, ◌≤◌, ◌⊎◌, List, ◌++◌, length, take, drop, sym, refl, ap, ◌∙◌, subst, ap₂, ⊎_elim, add-zero, add-suc, add-one, arith, take_all}
use borrow.Rule.Slice.PartMut.{put_mid, mid_len, same_len_mid}
use Rattle.program_stream.specs.declared.Held.{Held}
use Rattle.program_stream.specs.declared.Stop.{Stop}
use Rattle.program_stream.specs.declared.End.TheVariants.{Stopped, Full}
use Rattle.program_stream.specs.Gather.{held_bytes, Has, Holds, Stops, EndsFor}
use Rattle.program_stream.proofs.Laws.{has_enough, held_length, held_behind, put_behind, unwritten_stops, stop_ends}
use Rattle.gmp_settings.specs.Settings.{opu0}
use Rattle.gmp_settings.proofs.Laws.{inside_window}
use Rattle.gmp_source.specs.Source.{written}
use Rattle.program_map.specs.declared.Rate.{Rate}
use Rattle.program_map.specs.declared.Mapper.{Mapper}
use Rattle.odu0map.specs.declared.Batch.{Batch}
use Rattle.std.specs.Prelude.{Result, Ok, Err}
use Rattle.program_map.specs.Frames.{count_from, Ready, mapped, Maps}
use Rattle.odu0map.specs.Mapping.{mapper_after, bytes_after, load_at, frame_at, frames_after, Batched, MapsLoads, Goes, GoesOn, Counts}

-- one frame more
mapper_after_next : (a : Rate) (m : Mapper) (n : ℕ) → mapped a (mapper_after a m n) ≡ mapper_after a m (n + 1)
unfolding mapper_after
mapper_after_next a m n = ap (mapper_after a m) (sym (add-one n))

bytes_after_next : (a : Rate) (m : Mapper) (n : ℕ) → bytes_after a m (n + 1) ≡ bytes_after a m n + (mapper_after a m n).source.count
unfolding bytes_after
bytes_after_next a m n = rw add-one

frames_after_next : (a : Rate) (m : Mapper) (client : List ℕ) (n : ℕ) → frames_after a m client (n + 1) ≡ frames_after a m client n ++ frame_at a m client n
unfolding frames_after
frames_after_next a m client n = rw add-one

-- k frames more
mapper_after_more : (a : Rate) (m : Mapper) (n k : ℕ) → mapper_after a (mapper_after a m n) k ≡ mapper_after a m (n + k)
unfolding mapper_after
mapper_after_more a m n zero = ap (mapper_after a m) (sym (add-zero n))
mapper_after_more a m n (suc k) = ap (mapped a) (mapper_after_more a m n k) ∙ ap (mapper_after a m) (sym (add-suc n k))

bytes_after_more : (a : Rate) (m : Mapper) (n k : ℕ) → bytes_after a m n + bytes_after a (mapper_after a m n) k ≡ bytes_after a m (n + k)
unfolding bytes_after
bytes_after_more a m n zero = add-zero (bytes_after a m n) ∙ ap (bytes_after a m) (sym (add-zero n))
bytes_after_more a m n (suc k) =
    let more = bytes_after_more a m n k in
    let count = ap (λ (x : Mapper). x.source.count) (mapper_after_more a m n k) in
    let sum : bytes_after a m n + (bytes_after a (mapper_after a m n) k + (mapper_after a (mapper_after a m n) k).source.count) ≡ bytes_after a m (n + k) + (mapper_after a m (n + k)).source.count = omega arith in
    sum ∙ ap (bytes_after a m) (sym (add-suc n k))

-- So many loads are mapped, and their frames stand in order at the start of the frames' buffer.
pub record Mapping (a : Rate) (m : Mapper) (client : List ℕ) (mapper : Mapper) (at number : ℕ) (frames : List ℕ) : Type 0 where
  pub ready : Ready a mapper
  pub here : mapper ≡ mapper_after a m number
  pub bytes : at ≡ bytes_after a m number
  pub within : at ≤ length client
  pub few : number ≤ 16
  pub size : length frames ≡ 243840
  pub done : take (15240 * number) frames ≡ frames_after a m client number

pub mapping_start : (a : Rate) (m : Mapper) (client frames : List ℕ) → Ready a m → length frames ≡ 243840 → Mapping a m client m 0 0 frames
unfolding mapper_after bytes_after frames_after
mapping_start a m client frames h l =
    record { ready = h; here = refl; bytes = refl; within = omega arith; few = omega arith; size = l; done = refl }

module _ (a : Rate) (m : Mapper) (client : List ℕ) (mapper : Mapper) (at number : ℕ) (frames : List ℕ) (g : Mapping a m client mapper at number frames) where
  -- the next load and the place of its frame have their lengths
  load_length : mapper.source.count ≤ length client - at → length (take (at + mapper.source.count - at) (drop at client)) ≡ mapper.source.count
  load_length room = omega (arith, g.within, mid_len at (at + mapper.source.count) client (omega (arith, g.within)))

  place_length : number < 16 → length (take (15240 * number + 15240 - 15240 * number) (drop (15240 * number) frames)) ≡ 15240
  place_length h = omega (arith, mid_len (15240 * number) (15240 * number + 15240) frames (omega (arith, g.size)))

  pub mapping_asks : number < 16 → mapper.source.count ≤ length client - at
      → Ready a mapper × (length (take (at + mapper.source.count - at) (drop at client)) ≡ mapper.source.count)
      × (length (take (15240 * number + 15240 - 15240 * number) (drop (15240 * number) frames)) ≡ 15240)
  mapping_asks h room = (g.ready, load_length room, place_length h)

  pub mapping_next : number < 16 → mapper.source.count ≤ length client - at → (r : Mapper) (new : List ℕ)
      → Maps a mapper (take (at + mapper.source.count - at) (drop at client)) r new
      → length new ≡ length (take (15240 * number + 15240 - 15240 * number) (drop (15240 * number) frames))
      → Mapping a m client r (at + mapper.source.count) (number + 1) (put_mid (15240 * number) (15240 * number + 15240 - 15240 * number) frames new)
  mapping_next h room r new p kept =
      let count = mapper.source.count in
      let place = 15240 * number in
      let l : length new ≡ 15240 = kept ∙ place_length h in
      let long : at + count - at ≡ count = omega arith in
      let more : 15240 * (number + 1) ≡ place + 15240 = omega arith in
      let load : take (at + count - at) (drop at client) ≡ load_at a m client number =
      ap (λ (i : ℕ). take i (drop at client)) long ∙ ap₂ (λ (x : Mapper) (i : ℕ). take x.source.count (drop i client)) g.here g.bytes in
      let frame : new ≡ frame_at a m client number =
      p.frame_bytes ∙ ap₂ (λ (x : Mapper) (bytes : List ℕ). written opu0 x.source (count_from a x.remainder) bytes) g.here load in
      let behind = put_behind frames new place (place + 15240 - place) 15240 (omega (arith, g.size)) (omega (arith, l)) in
      record {
        ready = p.ready;
        here = p.mapper ∙ ap (mapped a) g.here ∙ mapper_after_next a m number;
        bytes = omega (arith, g.bytes, ap (λ (x : Mapper). x.source.count) g.here, bytes_after_next a m number);
        within = omega (arith, g.within);
        few = omega arith;
        size = same_len_mid place (place + 15240 - place) frames new kept ∙ g.size;
        done =
            ap (λ (i : ℕ). take i (put_mid place (place + 15240 - place) frames new)) more ∙ behind
            ∙ ap₂ (λ (x y : List ℕ). x ++ y) g.done (take_all 15240 new (omega (arith, l)) ∙ frame) ∙ sym (frames_after_next a m client number);
      }

  pub mapping_done : (number ≡ 16) ⊎ (length client - at < mapper.source.count) → MapsLoads a m client (record { mapper = mapper; frames = number; bytes = at }) frames
  mapping_done all =
      record {
        batch = record { mapper = g.here; ready = g.ready; bytes = g.bytes; within = g.within; few = g.few; all = all };
        frame_bytes = g.done;
      }

-- where a whole load is there one is taken
takes_some : (a : Rate) (m : Mapper) (client : List ℕ) (r : Batch) → Batched a m client r → m.source.count ≤ length client
    → length client - r.bytes < r.mapper.source.count → (n : ℕ) → r.frames ≡ n → 0 < n
unfolding mapper_after bytes_after
takes_some a m client r p h l zero e =
    let none = ap (λ (x : Mapper). x.source.count) (p.mapper ∙ ap (mapper_after a m) e) in
    absurd (omega (arith, none, p.bytes ∙ ap (bytes_after a m) e))
takes_some a m client r p h l (suc n) e = omega arith

pub takes_one : (a : Rate) (m : Mapper) (client : List ℕ) (r : Batch) → Batched a m client r → m.source.count ≤ length client → 0 < r.frames
takes_one a m client r p h = ⊎_elim (λ e. omega (arith, e)) (λ l. takes_some a m client r p h l r.frames refl) p.all

-- a load is held, since the block has room for one
pub holds_load : (a : Rate) (m : Mapper) (old : List ℕ) (h : Held) (block : List ℕ) → Ready a m → length block ≡ 230560 → Holds old m.source.count h block → Has m.source.count h block
holds_load a m old h block ready l p = has_enough old m.source.count h block p (omega (arith, l, (inside_window opu0 m.source.count ready.count).1))

-- a batch of the loads that are held, and the bytes behind it
pub goes_held : (a : Rate) (m : Mapper) (h : Held) (block : List ℕ) (r : Batch) → Has m.source.count h block → Batched a m (held_bytes h block) r
    → (behind : ℕ) → behind ≡ h.at + r.bytes → Goes a m (held_bytes h block) (Ok (r, record { at = behind; end = h.end })) block
goes_held a m h block r w p behind e = (
  p,
  takes_one a m (held_bytes h block) r p (omega (arith, w.enough, held_length block h w.within)),
  ap (λ (i : ℕ). held_bytes (record { at = i; end = h.end }) block) e ∙ held_behind block h r.bytes w.within p.within,
)

-- which lie within the block
pub behind_fits : (h : Held) (block : List ℕ) (least n : ℕ) → Has least h block → n ≤ length (held_bytes h block) → h.at + n ≤ length block
behind_fits h block least n w l = omega (arith, w.order, w.within, held_length block h w.within)

-- behind what was held before
pub goes_on : (a : Rate) (m : Mapper) (old client block : List ℕ) (r : Result (Batch × Held) Stop) → take (length old) client ≡ old → Goes a m client r block → GoesOn a m old r block
goes_on a m old client block (Ok (r, h)) e p = (client, e, p)
goes_on a m old client block (Err s) e p = unwritten_stops old m.source.count s block p

-- A run of batches: after so many frames from m₀ the mapper is at m, and the frames carry so many
-- client bytes, modulo 2^64.
pub record Along (a : Rate) (m₀ m : Mapper) (frames bytes : ℕ) : Type 0 where
  pub ready : Ready a m
  pub few : frames ≤ 18446744073709551615
  pub at : m ≡ mapper_after a m₀ frames
  pub sum : bytes ≡ bytes_after a m₀ frames % 18446744073709551616

pub along_start : (a : Rate) (m : Mapper) → Ready a m → Along a m m 0 0
unfolding mapper_after bytes_after
along_start a m h = record { ready = h; few = omega arith; at = refl; sum = refl }

pub along_next : (a : Rate) (m₀ m : Mapper) (n b : ℕ) → Along a m₀ m n b → n < 18446744073709551599 → (client : List ℕ) (r : Batch) → Batched a m client r
    → (c : ℕ) → c ≡ (b + r.bytes) % 18446744073709551616 → Along a m₀ r.mapper (n + r.frames) c
along_next a m₀ m n b l h client r p c e =
    let begun = ap (λ (x : Mapper). mapper_after a x r.frames) l.at in
    let carried = ap (λ (x : Mapper). bytes_after a x r.frames) l.at in
    record {
      ready = p.ready;
      few = omega (arith, p.few);
      at = p.mapper ∙ begun ∙ mapper_after_more a m₀ n r.frames;
      sum = omega (arith, e, l.sum, p.bytes, carried, bytes_after_more a m₀ n r.frames);
    }

-- its end: a stop, or as many frames as can be counted
pub run_stopped : (a : Rate) (m₀ m : Mapper) (frames bytes : ℕ) → Along a m₀ m frames bytes → (old block : List ℕ) (s : Stop) → Stops old m.source.count s.why block
    → Counts a m₀ (record { frames = frames; bytes = bytes; end = Stopped s })
run_stopped a m₀ m frames bytes l old block s p =
    record {
      bytes = l.sum;
      ends = subst (λ (x : Mapper). EndsFor x.source.count s.why) l.at (stop_ends old m.source.count s.why block p);
    }

pub run_full : (a : Rate) (m₀ m : Mapper) (frames bytes : ℕ) → Along a m₀ m frames bytes → 18446744073709551599 ≤ frames → Counts a m₀ (record { frames = frames; bytes = bytes; end = Full })
run_full a m₀ m frames bytes l h = record { bytes = l.sum; ends = h }
