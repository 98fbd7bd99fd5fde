-- What other crates cite: what is left in a row's buffer where all fits. Assumes nothing.
use mathlib.Core.Path.{◌≡◌}
use mathlib.Core.Bool.{true}
use mathlib.Core.List.{List}
use Prim.Native.Nat.{ℕ, ◌*◌, ◌≤◌, ◌<◌}
use lib.ListN.{length}
use borrow.Author.Tests.{lt-ltb, le-leb}
use Rattle.gmp_settings.specs.Grid.{payload_bytes}
use Rattle.gmp_stuffing.specs.Row.{row_fits, row_bytes, row_client, row_placed, row_taken}

-- what it is for a row to fit, in numbers
pub fits_where : (k r C : ℕ) → k < 4294967296 → r < 4 → C ≤ payload_bytes k → row_fits k r C ≡ true
unfolding row_fits
fits_where k r C lt row le = rw (lt-ltb k 4294967296 lt, lt-ltb r 4 row, le-leb C (4 * k) le)

-- the buffer of one of four rows holds its payload bytes, where the client bytes fit
pub placed_fits : (k r : ℕ) (client part : List ℕ) → length part ≡ k → row_fits k r (length client) ≡ true → row_placed r client part ≡ row_bytes k r client
unfolding row_placed
placed_fits k r client part l e = rw (l, e)

-- a buffer with room for them holds the client bytes of one of four rows in their place, where the
-- count fits
pub taken_fits : (k r C : ℕ) (part out : List ℕ) → length part ≡ k → row_fits k r C ≡ true → C ≤ length out → row_taken r C part out ≡ row_client k r C part out
unfolding row_taken
taken_fits k r C part out l e room = rw (l, le-leb C (length out) room, e)
