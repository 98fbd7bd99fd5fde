-- The payload bytes of one row (01, "Settings and the frame": four rows of K payload bytes). Rows
-- are numbered from 0 here. Assumes nothing.
use Rattle.std.specs.Prelude.{Bool, cond, ◌&&◌, List, ◌++◌, ℕ, ◌+◌, ◌*◌, ◌/◌, length, take, drop, ltb, leb}
use Rattle.gmp_settings.specs.Grid.{payload_bytes}
use Rattle.gmp_places.specs.Places.{placed, tabulate, chosen}

-- the K payload bytes of row r in a frame of these client bytes; their number is the count
abbrev pub row_bytes : ℕ → ℕ → List ℕ → List ℕ
row_bytes k r client = tabulate (placed (length client) (payload_bytes k) client) (r * k) k

-- The buffer `out` after the client bytes among the payload bytes of row r went to their place in
-- it. "Client bytes keep their order": as many come before them as places are before the row,
-- "among the first n exactly the whole part of n × C / S".
abbrev pub row_client : ℕ → ℕ → ℕ → List ℕ → List ℕ → List ℕ
row_client k r C part out =
    (take (r * k * C / payload_bytes k) out ++ chosen C (payload_bytes k) (r * k) part) ++ drop ((r * k + k) * C / payload_bytes k) out

-- r is one of the four rows of K payload bytes, with K below 2^32, and the count C fits the payload
unfoldable pub row_fits : ℕ → ℕ → ℕ → Bool
row_fits k r C = ltb k 4294967296 && (ltb r 4 && leb C (payload_bytes k))

-- what is left in a row's buffer: its payload bytes, where the row and the client bytes fit, and
-- else what was there
unfoldable pub row_placed : ℕ → List ℕ → List ℕ → List ℕ
row_placed r client part = cond (row_fits (length part) r (length client)) (row_bytes (length part) r client) part

-- what is left in the client bytes' buffer: the row's client bytes in their place, where the buffer
-- has room for the count and the row and the count fit, and else what was there
unfoldable pub row_taken : ℕ → ℕ → List ℕ → List ℕ → List ℕ
row_taken r C part out = cond (leb C (length out) && row_fits (length part) r C) (row_client (length part) r C part out) out
