-- The count of a sink's state, where it is known (01, "Sink"). Assumes nothing.
use Rattle.std.specs.Prelude.{cond}
use Rattle.gmp_settings.specs.declared.Settings.{Settings}
use Rattle.gmp_settings.specs.Settings.{outside}
use Rattle.gmp_standing.specs.declared.Count.{Count}
use Rattle.gmp_standing.specs.declared.Count.TheVariants.{Known, Unknown}

-- "A state with a count outside the window counts as having none"
unfoldable pub in_window : Settings → Count → Count
in_window s (Known n) = cond (outside s n) Unknown (Known n)
in_window s Unknown = Unknown
