-- Whether anything is to be told of a frame: another standing, a mended bit, or another accepted
-- type. Assumes nothing.
use Rattle.std.specs.Prelude.{Bool, true, false, cond, ◌&&◌, List, ℕ, eqb}
use Rattle.gmp_standing.specs.declared.Count.{Count}
use Rattle.gmp_standing.specs.declared.Count.TheVariants.{Known, Unknown}
use Rattle.gmp_standing.specs.Standing.{Finding, standing_number}
use Rattle.std.specs.Prelude.{Option, Some, None}
use Rattle.gmp_sink.specs.Sink.{mended_in}
use Rattle.program_demap.specs.declared.Wanted.{Wanted}
use Rattle.program_demap.specs.declared.Demapper.{Demapper}
use Rattle.program_demap.specs.Frames.{settings_of, control, standing_of, demapper_after}

-- two counts are the same, known or not
abbrev pub same_count : Count → Count → Bool
same_count (Known n) (Known m) = eqb n m
same_count (Known n) Unknown = false
same_count Unknown (Known m) = false
same_count Unknown Unknown = true

-- a standing is that of the frame before: the same name, and the same count found, which the sink's
-- state has kept
abbrev pub is_same : Demapper → Finding → Bool
is_same d f = eqb (standing_number f.name) d.last && same_count f.count d.state.count

-- nothing is said of a frame that was not mended and has the standing of the frame before
abbrev pub has_no_line : Demapper → Finding → Bool → Bool
has_no_line d f mended = cond mended false (is_same d f)

-- two accepted types are the same, or there is none both times
abbrev pub same_type : Option ℕ → Option ℕ → Bool
same_type (Some n) (Some m) = eqb n m
same_type (Some n) None = false
same_type None (Some m) = false
same_type None None = true

-- nothing is to be told of a frame: its standing has no line, and the accepted type stays
abbrev pub nothing_to_tell_by : Demapper → Finding → Bool → Demapper → Bool
nothing_to_tell_by d f mended after = has_no_line d f mended && same_type d.state.types.accepted after.state.types.accepted

unfoldable pub nothing_to_tell : Wanted → Demapper → List ℕ → Bool
nothing_to_tell w d frame = nothing_to_tell_by d (standing_of w d frame) (mended_in (settings_of w) (control frame)) (demapper_after w d frame)
