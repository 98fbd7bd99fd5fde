-- What callers cite of the ports. Assumes nothing.
use mathlib.Core.Path.{◌≡◌}
use mathlib.Core.Bool.{false}
use Prim.Native.Nat.{ℕ, ◌≤◌}
use native.Mathlib.Omega.{arith}
use lib.Dec.{eqb, ltb}
use borrow.Author.Tests.{eqb-false, ltb-false, ne_eqb, le-ltb}
use Rattle.math.proofs.Choice.{neither}
use Rattle.ports.specs.Port.{ports, bad_port}

-- a port of the card is 1 to 8, and these are ports of the card
pub within_ports : (p : ℕ) → bad_port p ≡ false → (1 ≤ p) × (p ≤ ports)
within_ports p e =
    let h = neither (eqb p 0) (ltb ports p) e in
    let nonzero = eqb-false p 0 h.0 in
    (omega arith, ltb-false ports p h.1)

pub good_port : (p : ℕ) → 1 ≤ p → p ≤ ports → bad_port p ≡ false
good_port p from to =
    let nonzero : p ≡ 0 → ⊥ = λ e. omega (arith, e, from) in
    simp (ne_eqb p 0 nonzero, le-ltb ports p to)
