-- `gmp_stuffing::place_singles` meets its contract. Assumes nothing.
use mathlib.Core.Path.{◌≡◌}
use Prim.Native.Nat.{◌*◌}
use lib.ListN.{length, take}
use Rattle.gmp_places.specs.Places.{placed, tabulate}
use Rattle.gmp_stuffing.proofs.Turns.{Single}
use Rattle.gmp_stuffing.proofs.place_singles.Given as goal

abbrev pub invariant-loop-j : goal.invariant-loop-j
invariant-loop-j l = Single l.k (length l.client) l.r l.j l.parts × (length l.part ≡ l.k) × (l.part ≡ tabulate (placed (length l.client) (4 * l.k) (take l.j l.client)) (l.r * l.k) l.k)
