-- What follows from the definitions at once. Assumes nothing.
use mathlib.Core.Path.{◌≡◌, refl}
use Prim.Native.Nat.{ℕ}
use Rattle.refusals.specs.Table.{refused}
use Rattle.card_tally.specs.declared.Tallies.{Tallies}
use Rattle.card_promise.specs.Card.{tallies_by}

-- a refused call leaves the tallies
pub refused_leaves : (n port bytes : ℕ) (y : Tallies) → tallies_by (refused n) port bytes y ≡ y
refused_leaves n port bytes y = refl
