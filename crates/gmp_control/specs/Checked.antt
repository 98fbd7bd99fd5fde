-- Number 14 and the rule of a table (02, P11). Assumes nothing.
use Rattle.std.specs.Prelude.{◌≡◌, false}
use Rattle.gmp_settings.specs.declared.Settings.{Settings}
use Rattle.gmp_settings.specs.declared.FourPatterns.{FourPatterns}
use Rattle.gmp_settings.specs.declared.Patterns.TheVariants.{Given}
use Rattle.gmp_settings.specs.Patterns.{bad_patterns}
use Rattle.gmp_settings.specs.Worked.{one_bit_wrong, alike, fifteen_bits}
use Rattle.gmp_control.specs.Pattern.{Table, table_by, table_of, Same, Differ, Short, Rule}
use Rattle.gmp_control.specs.Claims.{RecoversInTwo}

-- what is checked is the rule: "four that break the rule or exceed 14 bits" are refused, and no
-- others
pub record RuleIsChecked : Type 0 where
  pub enough : (s : Settings) → bad_patterns s ≡ false → Rule (table_of s)
  pub no_more : (s : Settings) → Rule (table_of s) → bad_patterns s ≡ false

-- No two parts of the rule do: a table that keeps these, and with which two words in succession
-- need not find the count
abbrev pub NotEnough : (Table → Type 0) → (Table → Type 0) → FourPatterns → Type 0
NotEnough One Other p = let t = table_by (Given p) in One t × Other t × (RecoversInTwo t → ⊥)

-- one where the exclusive-ors of the two signs differ in one bit, one where both are zero, and one
-- of 15 bits
pub record RuleIsNeeded : Type 0 where
  pub same : NotEnough Differ Short one_bit_wrong
  pub differ : NotEnough Same Short alike
  pub short : NotEnough Same Differ fifteen_bits
