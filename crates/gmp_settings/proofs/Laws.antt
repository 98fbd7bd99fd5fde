-- What callers cite of the settings. Assumes nothing.
use mathlib.Core.Path.{◌≡◌}
use mathlib.Core.Bool.{false}
use mathlib.Core.List.{List, ◌++◌}
use Prim.Native.Nat.{ℕ, ◌≤◌}
use native.Mathlib.Omega.{arith}
use lib.Dec.{ltb, eqb, lit<}
use borrow.Author.Tests.{ltb-false, eqb-false}
use Rattle.math.proofs.Choice.{neither}
use Rattle.refusals.specs.Table.{Reason, lowest}
use Rattle.refusals.proofs.Laws.{none_applies}
use Rattle.gmp_settings.specs.declared.Settings.{Settings}
use Rattle.gmp_settings.specs.Grid.{payload_bytes}
use Rattle.gmp_settings.specs.Settings.{widest_grid, bad_grid, bad_window, settings_reasons, outside, Fit}

-- settings that pass lines 1 and 2
pub settings_fit : (s : Settings) → lowest (settings_reasons s) ≡ 0 → Fit s
settings_fit s e =
    let one = none_applies 1 (bad_grid s) _ (lit< tt) e in
    let two = none_applies 2 (bad_window s) _ (lit< tt) one.1 in
    let g = neither (eqb s.k 0) (ltb widest_grid s.k) one.0 in
    let w = neither (ltb s.hi s.lo) (ltb (payload_bytes s.k) s.hi) two.0 in
    let z : s.k ≡ 0 → ⊥ = eqb-false s.k 0 g.0 in
    record { grid = omega (arith, z); widest = ltb-false _ _ g.1; ordered = ltb-false _ _ w.0; within = ltb-false _ _ w.1 }

-- a count that is not outside the window lies between its ends
pub inside_window : (s : Settings) (n : ℕ) → outside s n ≡ false → (s.lo ≤ n) × (n ≤ s.hi)
unfolding outside
inside_window s n e = let h = neither (ltb n s.lo) (ltb s.hi n) e in (ltb-false _ _ h.0, ltb-false _ _ h.1)

-- where the settings pass, a call's own lines decide
pub own_lines_decide : (s : Settings) (own : List Reason) → lowest (settings_reasons s) ≡ 0 → lowest (settings_reasons s ++ own) ≡ lowest own
own_lines_decide s own e =
    let one = none_applies 1 (bad_grid s) _ (lit< tt) e in
    let two = none_applies 2 (bad_window s) _ (lit< tt) one.1 in
    rw (one.0, two.0)

-- A call that is accepted passed the lines of the settings and its own.
pub all_passed : (s : Settings) (own : List Reason) → lowest (settings_reasons s ++ own) ≡ 0 → (lowest (settings_reasons s) ≡ 0) × (lowest own ≡ 0)
all_passed s own e =
    let one = none_applies 1 (bad_grid s) _ (lit< tt) e in
    let two = none_applies 2 (bad_window s) _ (lit< tt) one.1 in
    (rw (one.0, two.0), two.1)
