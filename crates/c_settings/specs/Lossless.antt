-- What crosses: all settings can be said in numbers, and where the flag of the patterns is 0 the
-- four say nothing. Assumes nothing.
use Rattle.std.specs.Prelude.{◌≡◌, not, cond, ℕ, eqb}
use Rattle.gmp_settings.specs.declared.Settings.{Settings}
use Rattle.gmp_settings.specs.declared.Patterns.{Patterns}
use Rattle.gmp_settings.specs.declared.Patterns.TheVariants.{Standard, Given}
use Rattle.gmp_settings.specs.Settings.{new_settings, with_mending, with_type_check}
use Rattle.c_settings.specs.declared.SettingsNumbers.{SettingsNumbers}
use Rattle.c_settings.specs.Numbers.{settings_from}

-- the numbers of settings with this grid, window, patterns, flag of mending and flag of the type
-- check
abbrev pub numbers_of : ℕ → ℕ → ℕ → Patterns → ℕ → ℕ → SettingsNumbers
numbers_of k lo hi Standard mends checks =
    record { k = k; lo = lo; hi = hi; has_patterns = 0; plus1 = 0; minus1 = 0; plus2 = 0; minus2 = 0; mending = mends; type_check = checks }
numbers_of k lo hi (Given p) mends checks =
    record { k = k; lo = lo; hi = hi; has_patterns = 1; plus1 = p.plus1; minus1 = p.minus1; plus2 = p.plus2; minus2 = p.minus2; mending = mends; type_check = checks }

abbrev pub settings_numbers : Settings → SettingsNumbers
settings_numbers s = numbers_of s.k s.lo s.hi s.patterns (cond s.mending 1 0) (cond s.type_check 1 0)

pub record Lossless : Type 0 where
  pub settings : (s : Settings) → settings_from (settings_numbers s) ≡ s
  pub standard : (x : SettingsNumbers) → x.has_patterns ≡ 0
      → settings_from x ≡ with_type_check (with_mending (new_settings x.k x.lo x.hi) (not (eqb x.mending 0))) (not (eqb x.type_check 0))
