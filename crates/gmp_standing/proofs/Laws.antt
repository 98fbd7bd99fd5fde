-- A standing is pinned by its name and what it found. Assumes nothing.
use mathlib.Core.Path.{◌≡◌, refl, sym, ap, ◌∙◌}
use mathlib.Core.Bool.{cond}
use Prim.Native.Nat.{ℕ}
use lib.Dec.{eqb}
use lib.ListN.{get_or}
use Rattle.gmp_standing.specs.declared.Count.{Count}
use Rattle.gmp_standing.specs.declared.Count.TheVariants.{Known, Unknown}
use Rattle.gmp_standing.specs.declared.Standing.{Standing}
use Rattle.gmp_standing.specs.declared.Standing.TheVariants.{Read, Tracked, Paired, BadCheck, Waiting, Outside}
use Rattle.gmp_standing.specs.Standing.{Finding, standing_meaning}

-- the standing of a finding: no other standing means it
abbrev standing_of : Finding → Standing
standing_of f = by f.count (get_or f.name 0 0)
  where
    by : Count → ℕ → Standing
    by (Known n) c = cond (eqb c 82) (Read n) (cond (eqb c 84) (Tracked n) (Paired n))
    by Unknown c = cond (eqb c 66) BadCheck (cond (eqb c 87) Waiting Outside)

standing_back : (x : Standing) → standing_of (standing_meaning x) ≡ x
standing_back (Read n) = refl
standing_back (Tracked n) = refl
standing_back (Paired n) = refl
standing_back BadCheck = refl
standing_back Waiting = refl
standing_back Outside = refl

-- so a promise about what a standing says is one about the standing
pub same_meaning : (x y : Standing) → standing_meaning x ≡ standing_meaning y → x ≡ y
same_meaning x y e = sym (standing_back x) ∙ ap standing_of e ∙ standing_back y
