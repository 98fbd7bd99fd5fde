-- The settings: a grid K and a window lo to hi (01, "Settings and the frame"), the inversion
-- patterns (02, P11), mending (02, P1), and the type check (02, P4). Assumes nothing.
use Rattle.std.specs.Prelude.{Bool, false, ◌||◌, List, [], ◌∷◌, ℕ, ◌<◌, ◌≤◌, ltb, eqb}
use Rattle.refusals.specs.Table.{Reason, reason}
use Rattle.gmp_settings.specs.declared.Settings.{Settings}
use Rattle.gmp_settings.specs.declared.FourPatterns.{FourPatterns}
use Rattle.gmp_settings.specs.declared.Patterns.TheVariants.{Standard, Given}
use Rattle.gmp_settings.specs.Grid.{payload_bytes}

-- "The settings are a grid K .. and a window lo to hi": every record of settings is made here, with
-- 01's patterns, without mending and without the type check
abbrev pub new_settings : ℕ → ℕ → ℕ → Settings
new_settings k lo hi = record { k = k; lo = lo; hi = hi; patterns = Standard; mending = false; type_check = false }

-- "The settings may carry four patterns .. which take the place of document 01's" (02, P11)
abbrev pub with_patterns : Settings → FourPatterns → Settings
with_patterns s four = record { k = s.k; lo = s.lo; hi = s.hi; patterns = Given four; mending = s.mending; type_check = s.type_check }

-- "A new setting turns it on" (02, P1), or off
abbrev pub with_mending : Settings → Bool → Settings
with_mending s b = record { k = s.k; lo = s.lo; hi = s.hi; patterns = s.patterns; mending = b; type_check = s.type_check }

-- "A setting turns the check on" (02, P4), or off
abbrev pub with_type_check : Settings → Bool → Settings
with_type_check s b = record { k = s.k; lo = s.lo; hi = s.hi; patterns = s.patterns; mending = s.mending; type_check = b }

-- the most payload columns in a row: those of OPU0
abbrev pub widest_grid : ℕ
widest_grid = 3808

-- "OPU0 has K = 3,808, S = 15,232, window 14,405 to 14,410"
abbrev pub opu0 : Settings
opu0 = new_settings 3808 14405 14410

-- number 1, grid: "K is 0 or above 3,808"
abbrev pub bad_grid : Settings → Bool
bad_grid s = eqb s.k 0 || ltb widest_grid s.k

-- number 2, window: "lo > hi or hi > S"
abbrev pub bad_window : Settings → Bool
bad_window s = ltb s.hi s.lo || ltb (payload_bytes s.k) s.hi

-- the lines of the table that the settings alone decide and that every call begins with; number 14
-- is the last of each call's own
abbrev pub settings_reasons : Settings → List Reason
settings_reasons s = reason 1 (bad_grid s) ∷ reason 2 (bad_window s) ∷ []

-- a count outside the window lo to hi
unfoldable pub outside : Settings → ℕ → Bool
outside s n = ltb n s.lo || ltb s.hi n

-- settings to which neither line applies
pub record Fit (s : Settings) : Type 0 where
  pub grid : 0 < s.k
  pub widest : s.k ≤ widest_grid
  pub ordered : s.lo ≤ s.hi
  pub within : s.hi ≤ payload_bytes s.k
