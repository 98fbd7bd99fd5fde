-- Without one part of the rule two words in succession need not find the count. Each run is one of
-- a new OPU0 sink. Assumes nothing.
use mathlib.Core.Path.{◌≡◌, refl}
use mathlib.Core.List.{[], ◌∷◌}
use Prim.Native.Nat.{ℕ, ◌<◌}
use native.Mathlib.Omega.{arith}
use lib.Dec.{lit<}
use Rattle.gmp_settings.specs.Settings.{Fit, opu0, outside}
use Rattle.gmp_settings.proofs.Laws.{settings_fit}
use Rattle.gmp_standing.specs.declared.Count.TheVariants.{Known, Unknown}
use Rattle.gmp_standing.specs.Known.{in_window}
use Rattle.std.specs.Prelude.{None}
use Rattle.gmp_control.specs.Word.{modulus, equal_indicators}
use Rattle.gmp_control.specs.Pattern.{Short}
use Rattle.gmp_control.specs.Announce.{announced}
use Rattle.gmp_control.specs.Follow.{usable, tracked, candidate, paired, reached, found_by}
use Rattle.gmp_control.specs.Checked.{RuleIsNeeded}
use Rattle.gmp_control.proofs.Tables.{table_lt}

opu0_fit : Fit opu0
opu0_fit = settings_fit opu0 refl

-- four numbers of 14 bits are a table of such
short : (a b c d : ℕ) → a < modulus → b < modulus → c < modulus → d < modulus → Short (a ∷ b ∷ c ∷ d ∷ [])
short a b c d = table_lt a b c d modulus

pub rule_is_needed : RuleIsNeeded
unfolding announced found_by in_window usable tracked candidate paired reached equal_indicators outside
rule_is_needed =
    record {
      same = (
        λ e. omega arith,
        short _ _ _ _ (lit< tt) (lit< tt) (lit< tt) (lit< tt),
        -- 14408, 14410, 14409: the sink comes to the false count 4384, which is outside the window
        λ h.
            let e : Unknown ≡ Known 14409 = h opu0 opu0_fit 14408 14410 14409 Unknown None refl refl refl in
            let z : ◌≡◌ {A = ℕ} 0 1 = cc in
            omega arith,
      );
      differ = (
        refl,
        short _ _ _ _ (lit< tt) (lit< tt) (lit< tt) (lit< tt),
        -- 14405, 14406, 14408: the sink cannot tell +2 from +1
        λ h.
            let e : Known 14407 ≡ Known 14408 = h opu0 opu0_fit 14405 14406 14408 Unknown None refl refl refl in
            let z : ◌≡◌ {A = ℕ} 14407 14408 = cc in
            omega arith,
      );
      short = (
        refl,
        λ e. omega arith,
        -- 14405, 14406, 14407: the 14 bits of a word are never a pattern of 15
        λ h.
            let e : Unknown ≡ Known 14407 = h opu0 opu0_fit 14405 14406 14407 Unknown None refl refl refl in
            let z : ◌≡◌ {A = ℕ} 0 1 = cc in
            omega arith,
      );
    }
