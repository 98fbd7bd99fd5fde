-- The settings as the plain numbers that C and Rust give. What may be missing is a flag, 0 for the
-- standard's patterns, beside four numbers; mending and the type check are flags, 0 for off.
-- Assumes nothing.
use Rattle.std.specs.Prelude.{not, cond, eqb}
use Rattle.gmp_settings.specs.declared.Settings.{Settings}
use Rattle.gmp_settings.specs.declared.FourPatterns.{FourPatterns}
use Rattle.gmp_settings.specs.Settings.{new_settings, with_patterns, with_mending, with_type_check}
use Rattle.c_settings.specs.declared.SettingsNumbers.{SettingsNumbers}

-- the four patterns, as they stand
abbrev pub four_from : SettingsNumbers → FourPatterns
four_from x = record { plus1 = x.plus1; minus1 = x.minus1; plus2 = x.plus2; minus2 = x.minus2 }

-- the grid, the window and the patterns
unfoldable pub patterns_from : SettingsNumbers → Settings
patterns_from x =
    let s : Settings = new_settings x.k x.lo x.hi in
    cond (eqb x.has_patterns 0) s (with_patterns s (four_from x))

-- the settings that any ten numbers stand for
unfoldable pub settings_from : SettingsNumbers → Settings
settings_from x = with_type_check (with_mending (patterns_from x) (not (eqb x.mending 0))) (not (eqb x.type_check 0))
