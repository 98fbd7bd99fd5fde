-- From frame to frame: the run over some frames, and over one more. Assumes nothing.
use mathlib.Core.Path.{◌≡◌, ap, subst}
use mathlib.Core.List.{List, [], ◌∷◌, ◌++◌, foldl}
use Prim.Native.Nat.{ℕ, ◌+◌, ◌≤◌, ◌<◌}
use native.Mathlib.Omega.{arith}
use lib.ListN.{length}
use Rattle.math.proofs.Fold.{fold_next}
use Rattle.program_stream.specs.declared.Stop.{Stop}
use Rattle.program_stream.specs.declared.End.TheVariants.{Stopped, Full}
use Rattle.std.specs.Prelude.{Result, Ok, Err}
use Rattle.program_stream.specs.Gather.{Gathers, EndsFor}
use Rattle.program_stream.proofs.Laws.{reading_stops, unwritten_stops, stop_ends}
use Rattle.sinkshow.specs.declared.Run.{Run}
use Rattle.sinkshow.specs.Show.{new_run, run_after, Goes, GoesOn, ShowsAll}

-- a frame that was read was some frame of 16 bytes
pub goes_on : (n : Run) (frame : List ℕ) (r : Result Run Stop) → length frame ≡ 16 → Goes n frame r → GoesOn n r
goes_on n frame (Ok r) l e = (frame, l, e)
goes_on n frame (Err s) l e = stop_ends [] 16 s.why [] (unwritten_stops [] 16 s [] e)

-- a run that has come so far
pub record Along (r : Run) : Type 0 where
  pub frames : List (List ℕ)
  pub over : r ≡ foldl run_after new_run frames
  pub few : r.frames ≤ 18446744073709551615

pub along_start : (r : Run) → r ≡ new_run → Along r
along_start r e = record { frames = []; over = e; few = omega (arith, ap (λ (x : Run). x.frames) e) }

-- the number of frames grows by one
pub one_further : (n r : Run) → GoesOn n (Ok r) → r.frames ≡ n.frames + 1
one_further n r g = ap (λ (x : Run). x.frames) g.2

pub along_next : (n r : Run) → Along n → n.frames < 18446744073709551615 → GoesOn n (Ok r) → Along r
along_next n r a h g =
    record {
      frames = a.frames ++ (g.0 ∷ []);
      over = fold_next run_after new_run n r a.frames g.0 a.over g.2;
      few = omega (arith, one_further n r g);
    }

-- its end: a stop, or as many frames as can be counted
pub run_stopped : (r : Run) → Along r → (s : Stop) → GoesOn r (Err s) → ShowsAll (record { run = r; end = Stopped s })
run_stopped r a s p = record { frames = a.frames; run = a.over; ends = p }

pub run_full : (r : Run) → Along r → 18446744073709551615 ≤ r.frames → ShowsAll (record { run = r; end = Full })
run_full r a h = record { frames = a.frames; run = a.over; ends = h }

-- a frame that could not be read
pub read_stopped : (n : Run) (block after : List ℕ) (s : Stop) → length block ≡ 16 → Gathers block (Err s) after → GoesOn n (Err s)
read_stopped n block after s l p =
    let stops = stop_ends [] (length block) s.why after (reading_stops [] (length block) s.why after p) in
    subst (λ (i : ℕ). EndsFor i s.why) l stops
