-- From frame to frame, and from run to run. Assumes nothing.
use mathlib.Core.Path.{◌≡◌, refl, sym, ap, ap₂, subst, ◌∙◌}
use mathlib.Core.Bool.{Bool, true, false, ◌&&◌}
use mathlib.Core.Logic.{◌⊎◌, ⊎_elim}
use mathlib.Core.List.{List, [], ◌∷◌, ◌++◌, foldl-append, append_assoc, append-nil}
use Prim.Native.Nat.{ℕ, zero, suc, ◌+◌, ◌-◌, ◌*◌, ◌≤◌, ◌<◌}
use native.Mathlib.Numerals.{add-one}
use native.Mathlib.Omega.{arith}
use lib.ListN.{length, take, drop, length-append}
use lib.Seq.{length-take-le}
use borrow.Rule.Slice.PartMut.{put_mid, mid_len, same_len_mid}
use Rattle.io.specs.Counts.{IsPrefixLen}
use Rattle.math.proofs.Choice.{both_true}
use Rattle.gmp_standing.specs.declared.Standing.{Standing}
use Rattle.gmp_standing.specs.Standing.{Finding, standing_meaning}
use Rattle.gmp_sink.specs.Sink.{mended_in}
use Rattle.program_stream.specs.declared.Held.{Held}
use Rattle.program_stream.specs.declared.Stop.{Stop}
use Rattle.program_stream.specs.declared.End.TheVariants.{Stopped, Full}
use Rattle.program_stream.specs.Gather.{held_bytes, Has, Stops}
use Rattle.program_stream.proofs.Laws.{held_length, held_behind, put_behind, unwritten_stops, stop_ends}
use Rattle.program_demap.specs.declared.Wanted.{Wanted}
use Rattle.program_demap.specs.declared.Demapper.{Demapper}
use Rattle.program_demap.specs.declared.Taken.{Taken}
use Rattle.std.specs.Prelude.{Option, Some, None, Result, Ok, Err}
use Rattle.odu0demap.specs.declared.Run.{Run}
use Rattle.program_demap.specs.Frames.{settings_of, control, standing_of, new_demapper, demapper_after, handed_bytes, Takes}
use Rattle.program_told.specs.Told.{nothing_to_tell_by, nothing_to_tell}
use Rattle.odu0demap.specs.Demapping.{frame_at, frames_in, demapper_over, handed_over, nothing_to_tell_of, Telling, Runs, TakesFrames, Goes, GoesOn, Demaps, DemapsAll}

-- one frame more
frames_next : (n : ℕ) (bytes : List ℕ) → frames_in (n + 1) bytes ≡ frames_in n bytes ++ (frame_at n bytes ∷ [])
unfolding frames_in
frames_next n bytes = rw add-one

handed_next : (w : Wanted) (d : Demapper) (fs : List (List ℕ)) (f : List ℕ) → handed_over w d (fs ++ (f ∷ [])) ≡ handed_over w d fs ++ handed_bytes w (demapper_over w d fs) f
unfolding handed_over
handed_next w d [] f = append-nil (handed_bytes w d f)
handed_next w d (g ∷ fs) f =
    ap (λ (x : List ℕ). handed_bytes w d g ++ x) (handed_next w (demapper_after w d g) fs f) ∙ sym (append_assoc (handed_bytes w d g) _ _)

nothing_next : (w : Wanted) (d : Demapper) (fs : List (List ℕ)) (f : List ℕ) → nothing_to_tell_of w d fs ≡ true → nothing_to_tell w (demapper_over w d fs) f ≡ true
    → nothing_to_tell_of w d (fs ++ (f ∷ [])) ≡ true
unfolding nothing_to_tell_of
nothing_next w d [] f e q = rw q
nothing_next w d (g ∷ fs) f e q =
    let b = both_true (nothing_to_tell w d g) (nothing_to_tell_of w (demapper_after w d g) fs) e in
    ap₂ (λ (x y : Bool). x && y) b.0 (nothing_next w (demapper_after w d g) fs f b.1 q)

-- So many frames are taken, of which nothing is to be told, and their client bytes stand in order
-- at the start of the output buffer.
pub record Running (w : Wanted) (d : Demapper) (bytes : List ℕ) (demapper : Demapper) (number handed : ℕ) (out : List ℕ) : Type 0 where
  pub few : number ≤ 16
  pub whole : 15240 * number ≤ length bytes
  pub here : demapper ≡ demapper_over w d (frames_in number bytes)
  pub room : handed ≤ 14410 * number
  pub size : length out ≡ 230560
  pub done : take handed out ≡ handed_over w d (frames_in number bytes)
  pub still : nothing_to_tell_of w d (frames_in number bytes) ≡ true

pub running_start : (w : Wanted) (d : Demapper) (bytes out : List ℕ) → length out ≡ 230560 → Running w d bytes d 0 0 out
unfolding frames_in handed_over nothing_to_tell_of
running_start w d bytes out l =
    record { few = omega arith; whole = omega arith; here = refl; room = omega arith; size = l; done = refl; still = refl }

counted : (out : List ℕ) (n : ℕ) → n ≤ length out → IsPrefixLen n out
counted out n h = (h, sym (length-take-le n out h))

module _ (w : Wanted) (d : Demapper) (bytes : List ℕ) (demapper : Demapper) (number handed : ℕ) (out : List ℕ) (g : Running w d bytes demapper number handed out) where
  -- a run of which nothing is to be told
  pub run_done : (number ≡ 16) ⊎ (length bytes - 15240 * number < 15240) → Runs w d bytes (record { frames = number; handed = handed; before = demapper; after = demapper; told = None }) out
  run_done all =
      record {
        few = g.few;
        whole = g.whole;
        after = g.here;
        within = counted out handed (omega (arith, g.few, g.room, g.size));
        handed = g.done;
        told = (g.still, all);
      }

  module _ (h : number < 16) (l : 15240 ≤ length bytes - 15240 * number) where
    -- the next frame and the room for its client bytes have their lengths
    pub running_asks : (length (take (15240 * number + 15240 - 15240 * number) (drop (15240 * number) bytes)) ≡ 15240) × (length (take (handed + 14410 - handed) (drop handed out)) ≡ 14410)
    running_asks =
        (omega (arith, mid_len (15240 * number) (15240 * number + 15240) bytes (omega arith)), omega (arith, mid_len handed (handed + 14410) out (omega (arith, g.room, g.size))))

    module _ (t : Taken) (new : List ℕ) (p : Takes w demapper (take (15240 * number + 15240 - 15240 * number) (drop (15240 * number) bytes)) t new)
        (kept : length new ≡ length (take (handed + 14410 - handed) (drop handed out))) where
      abbrev frame : List ℕ
      frame = frame_at number bytes

      taken : Takes w demapper frame t new
      taken = let same : 15240 * number + 15240 - 15240 * number ≡ 15240 = omega arith in subst (λ (i : ℕ). Takes w demapper (take i (drop (15240 * number) bytes)) t new) same p

      few_bytes : t.handed ≤ 14410
      few_bytes = omega (arith, taken.within.0, kept, running_asks.1)

      after_next : t.after ≡ demapper_over w d (frames_in (number + 1) bytes)
      after_next =
          taken.after ∙ ap (λ (x : Demapper). demapper_after w x frame) g.here ∙ sym (foldl-append (demapper_after w) d (frames_in number bytes) (frame ∷ []))
          ∙ ap (demapper_over w d) (sym (frames_next number bytes))

      done_next : take (handed + t.handed) (put_mid handed (handed + 14410 - handed) out new) ≡ handed_over w d (frames_in (number + 1) bytes)
      done_next =
          put_behind out new handed (handed + 14410 - handed) t.handed (omega (arith, g.few, g.room, g.size)) taken.within.0
          ∙ ap₂ (λ (x y : List ℕ). x ++ y) g.done (taken.bytes ∙ ap (λ (x : Demapper). handed_bytes w x frame) g.here)
          ∙ sym (handed_next w d (frames_in number bytes) frame) ∙ ap (handed_over w d) (sym (frames_next number bytes))

      size_next : length (put_mid handed (handed + 14410 - handed) out new) ≡ 230560
      size_next = same_len_mid handed (handed + 14410 - handed) out new kept ∙ g.size

      -- whether something is to be told of it
      tells : (b : Bool) → b ≡ nothing_to_tell_by demapper (standing_meaning t.standing) t.mended t.after → nothing_to_tell w demapper frame ≡ b
      unfolding nothing_to_tell
      tells b e = sym (e ∙ ap₂ (λ (x : Finding) (y : Bool). nothing_to_tell_by demapper x y t.after) taken.standing taken.mended ∙ ap (nothing_to_tell_by demapper (standing_of w demapper frame) (mended_in (settings_of w) (control frame))) taken.after)

      pub running_next : true ≡ nothing_to_tell_by demapper (standing_meaning t.standing) t.mended t.after
          → Running w d bytes t.after (number + 1) (handed + t.handed) (put_mid handed (handed + 14410 - handed) out new)
      running_next q =
          record {
            few = omega arith;
            whole = omega arith;
            here = after_next;
            room = omega (arith, g.room, few_bytes);
            size = size_next;
            done = done_next;
            still = ap (nothing_to_tell_of w d) (frames_next number bytes) ∙ nothing_next w d (frames_in number bytes) frame g.still (ap (λ (x : Demapper). nothing_to_tell w x frame) (sym g.here) ∙ tells true q);
          }

      pub run_told : false ≡ nothing_to_tell_by demapper (standing_meaning t.standing) t.mended t.after
          → Runs w d bytes (record { frames = number + 1; handed = handed + t.handed; before = demapper; after = t.after; told = Some (t.standing, t.mended) }) (put_mid handed (handed + 14410 - handed) out new)
      run_told q =
          record {
            few = omega arith;
            whole = omega arith;
            after = after_next;
            within = counted (put_mid handed (handed + 14410 - handed) out new) (handed + t.handed) (omega (arith, g.room, few_bytes, size_next));
            handed = done_next;
            told = (
              number,
              refl,
              record {
                earlier = g.still;
                demapper = g.here;
                tells_it = tells false q;
                standing = taken.standing;
                mended = taken.mended;
              },
            );
          }

-- where a whole frame is there one is taken
some_told : (w : Wanted) (d : Demapper) (bytes : List ℕ) (n : ℕ) (before : Demapper) (t : Option (Standing × Bool)) → Telling w d bytes n before t → 15240 ≤ length bytes → 0 < n
some_told w d bytes n before None e h = ⊎_elim (λ m. omega (arith, m)) (λ m. omega (arith, m)) e.1
some_told w d bytes n before (Some (s, m)) e h = omega (arith, e.1)

-- a run of the frames that are held, and the bytes behind it
pub goes_held : (w : Wanted) (d : Demapper) (h : Held) (block : List ℕ) (r : Run) (out : List ℕ) → Has 15240 h block → Runs w d (held_bytes h block) r out
    → (behind : ℕ) → behind ≡ h.at + 15240 * r.frames → Goes w d (held_bytes h block) (Ok (r.after, r.frames, record { at = behind; end = h.end })) block
goes_held w d h block r out has p behind e =
    record {
      some = some_told w d (held_bytes h block) r.frames r.before r.told p.told (omega (arith, has.enough, held_length block h has.within));
      few = p.few;
      whole = p.whole;
      after = p.after;
      held = ap (λ (i : ℕ). held_bytes (record { at = i; end = h.end }) block) e ∙ held_behind block h (15240 * r.frames) has.within p.whole;
    }

-- behind what was held before
pub goes_on : (w : Wanted) (d : Demapper) (old bytes block : List ℕ) (r : Result (Demapper × ℕ × Held) Stop) → take (length old) bytes ≡ old → Goes w d bytes r block → GoesOn w d old r block
goes_on w d old bytes block (Ok (r, n, h)) e p = (bytes, e, p)
goes_on w d old bytes block (Err s) e p = unwritten_stops old 15240 s block p

-- A demapper that has come so far, over so many frames from a new one on.
pub record Along (w : Wanted) (d : Demapper) (taken : ℕ) : Type 0 where
  pub frames : List (List ℕ)
  pub over : Demaps w d frames
  pub number : length frames ≡ taken

pub along_start : (w : Wanted) (r : Demapper) → r ≡ new_demapper → Along w r 0
along_start w r e = record { frames = []; over = e; number = refl }

frames_length : (n : ℕ) (bytes : List ℕ) → length (frames_in n bytes) ≡ n
unfolding frames_in
frames_length zero bytes = refl
frames_length (suc n) bytes = length-append (frames_in n bytes) (frame_at n bytes ∷ []) ∙ ap (λ (i : ℕ). i + 1) (frames_length n bytes) ∙ add-one n

pub along_next : (w : Wanted) (d : Demapper) (taken : ℕ) → Along w d taken → (bytes : List ℕ) (r : Demapper) (n : ℕ) (behind : List ℕ) → TakesFrames w d bytes r n behind → Along w r (taken + n)
along_next w d taken a bytes r n behind p =
    record {
      frames = a.frames ++ frames_in n bytes;
      over = p.after ∙ ap (λ (x : Demapper). demapper_over w x (frames_in n bytes)) a.over ∙ sym (foldl-append (demapper_after w) new_demapper a.frames (frames_in n bytes));
      number = omega (arith, length-append a.frames (frames_in n bytes), a.number, frames_length n bytes);
    }

-- its end: a stop, or as many frames as can be counted
pub run_stopped : (w : Wanted) (d : Demapper) (taken : ℕ) → Along w d taken → (old block : List ℕ) (s : Stop) → Stops old 15240 s.why block
    → DemapsAll w (record { demapper = d; end = Stopped s })
run_stopped w d taken a old block s p = record { frames = a.frames; demapper = a.over; ends = stop_ends old 15240 s.why block p }

pub run_full : (w : Wanted) (d : Demapper) (taken : ℕ) → Along w d taken → 18446744073709551599 ≤ taken → DemapsAll w (record { demapper = d; end = Full })
run_full w d taken a h = record { frames = a.frames; demapper = a.over; ends = omega (arith, a.number) }
