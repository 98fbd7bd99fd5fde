-- A word that was read has no standing BADCHECK, whatever it leads to. Assumes nothing.
use mathlib.Core.Path.{◌≡◌, refl}
use mathlib.Core.Bool.{Bool, true, false, cond}
use Prim.Native.Nat.{ℕ}
use Rattle.math.specs.Choice.{same_list}
use Rattle.gmp_settings.specs.declared.Settings.{Settings}
use Rattle.gmp_settings.specs.Settings.{outside}
use Rattle.gmp_standing.specs.declared.Count.{Count}
use Rattle.gmp_standing.specs.declared.Count.TheVariants.{Known, Unknown}
use Rattle.gmp_standing.specs.Standing.{Finding, finding, READ, BADCHECK, OUTSIDE}
use Rattle.gmp_standing.specs.Known.{in_window}
use Rattle.std.specs.Prelude.{Option}
use Rattle.gmp_control.specs.Word.{count_bits, equal_indicators}
use Rattle.gmp_control.specs.Pattern.{Table}
use Rattle.gmp_control.specs.Follow.{usable, from_count, from_word, tracked_else_paired, reached, windowed_by, found_by}

-- a standing is another than BADCHECK
abbrev Other : Finding → Type 0
Other f = same_list f.name BADCHECK ≡ false

other_rule_3 : (a b : Count) → Other (tracked_else_paired a b)
other_rule_3 (Known n) b = refl
other_rule_3 Unknown (Known m) = refl
other_rule_3 Unknown Unknown = refl

other_choice : (b : Bool) (f g : Finding) → Other f → Other g → Other (cond b f g)
other_choice true f g p q = p
other_choice false f g p q = q

other_window : (s : Settings) (f : Finding) (c : Count) → Other f → Other (windowed_by s f c)
other_window s f (Known n) p = other_choice (outside s n) (finding OUTSIDE Unknown) f refl p
other_window s f Unknown p = p

pub never_bad_check : (t : Table) (s : Settings) (count : Count) (before : Option ℕ) (w : ℕ) → same_list (found_by t s count before w).name BADCHECK ≡ false
unfolding found_by reached
never_bad_check t s count before w =
    let rule-3 : Finding = tracked_else_paired (from_count t (in_window s count) w) (from_word t (usable before) w) in
    let f : Finding = cond (equal_indicators w) (finding READ (Known (count_bits w))) rule-3 in
    other_window s f f.count
    (other_choice (equal_indicators w) (finding READ (Known (count_bits w))) rule-3 refl (other_rule_3 (from_count t (in_window s count) w) (from_word t (usable before) w)))
