-- What two sinks may rely on, for every table of patterns that keeps the rule and not only for the
-- paper's. Assumes nothing.
use Rattle.std.specs.Prelude.{◌≡◌, false, cond, ℕ, ◌+◌, ◌<◌}
use Rattle.gmp_settings.specs.declared.Settings.{Settings}
use Rattle.gmp_settings.specs.Settings.{Fit, outside}
use Rattle.gmp_standing.specs.declared.Count.{Count}
use Rattle.gmp_standing.specs.declared.Count.TheVariants.{Known}
use Rattle.gmp_standing.specs.Standing.{finding, READ, TRACKED}
use Rattle.std.specs.Prelude.{Option, Some}
use Rattle.gmp_control.specs.Word.{equal_indicators}
use Rattle.gmp_control.specs.Pattern.{Table, standard, Rule}
use Rattle.gmp_control.specs.Announce.{announced}
use Rattle.gmp_control.specs.Follow.{usable, tracked, candidate, found_by}

-- a true count is followed to the next, READ where II = DI and otherwise TRACKED
abbrev pub FollowsTrueCount : Table → Type 0
FollowsTrueCount t =
    (s : Settings) → Fit s → (old next : ℕ) (before : Option ℕ) → outside s old ≡ false → outside s next ≡ false
    → let w = announced t old next in
    found_by t s (Known old) before w ≡ finding (cond (equal_indicators w) READ TRACKED) (Known next)

-- from any state two words of a source in succession give the source's count
abbrev pub RecoversInTwo : Table → Type 0
RecoversInTwo t =
    (s : Settings) → Fit s → (old mid next : ℕ) (count : Count) (before : Option ℕ)
    → outside s old ≡ false → outside s mid ≡ false → outside s next ≡ false
    → let v = announced t old mid in
    (found_by t s (found_by t s count before v).count (usable (Some v)) (announced t mid next)).count ≡ Known next

-- "the one which this word continues": where both possible counts of a word are continued, they
-- lead to the same count
abbrev pub ContinuesOne : Table → Type 0
ContinuesOne t =
    (before f bits g a b : ℕ) → f < 2 → g < 2 → tracked t (candidate t before f) bits g ≡ Known a → tracked t (candidate t before (f + 2)) bits g ≡ Known b → a ≡ b

-- every table that keeps the rule serves, and the paper's does
pub record TablesServe : Type 0 where
  pub every : (t : Table) → Rule t → FollowsTrueCount t × RecoversInTwo t × ContinuesOne t
  pub paper : Rule standard
