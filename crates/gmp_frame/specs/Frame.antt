-- The frame's layout (01, "Settings and the frame"): four rows of K + 2 bytes. Rows are numbered
-- from 0 here, payload bytes from 1. Assumes nothing.
use Rattle.std.specs.Prelude.{◌≡◌, cond, ◌&&◌, List, ◌∷◌, ◌++◌, ℕ, ◌+◌, ◌*◌, ◌≤◌, ◌<◌, length, get_or, take, drop, eqb, leb}
use Rattle.gmp_settings.specs.Grid.{payload_bytes, frame_bytes}
use Rattle.gmp_frame.specs.declared.Control.{Control}
use Rattle.gmp_places.specs.Places.{placed, tabulate, chosen}

-- bytes as long as a frame on a grid of k columns, with k below 2^32, that have room for C client
-- bytes
abbrev pub HasRoom : ℕ → ℕ → List ℕ → Type 0
HasRoom k C bytes = (length bytes ≡ frame_bytes k) × (C ≤ payload_bytes k) × (k < 4294967296)

-- row r with its first two bytes a and b, and then its K payload bytes
unfoldable pub row : ℕ → List ℕ → ℕ → ℕ → ℕ → List ℕ
row k client r a b = a ∷ b ∷ tabulate (placed (length client) (payload_bytes k) client) (r * k) k

-- The frame of these client bytes; their number is the count. "The first byte of rows 1 to 3 is
-- reserved. The first byte of row 4 is the PSI byte .. The second byte of rows 1, 2, 3 is JC1, JC2,
-- JC3, that of row 4 reserved." Reserved bytes are written as zero.
unfoldable pub frame : ℕ → List ℕ → Control → ℕ → List ℕ
frame k client control psi =
    row k client 0 0 control.jc1 ++ (row k client 1 0 control.jc2 ++ (row k client 2 0 control.jc3 ++ row k client 3 psi 0))

-- the payload bytes of row r of a frame
unfoldable pub columns : ℕ → List ℕ → ℕ → List ℕ
columns k bytes r = take k (drop (r * (k + 2) + 2) bytes)

-- "The payload bytes, in row order"
unfoldable pub payload : ℕ → List ℕ → List ℕ
payload k bytes = columns k bytes 0 ++ (columns k bytes 1 ++ (columns k bytes 2 ++ columns k bytes 3))

-- the client bytes of a frame, at the places of the count C
unfoldable pub client_bytes : ℕ → ℕ → List ℕ → List ℕ
client_bytes k C bytes = chosen C (payload_bytes k) 0 (payload k bytes)

-- JC1, JC2 and JC3 of a frame: the second bytes of its first three rows (zero where the frame is
-- too short to have them)
unfoldable pub control_of : ℕ → List ℕ → Control
control_of k bytes = record { jc1 = get_or bytes 1 0; jc2 = get_or bytes (k + 3) 0; jc3 = get_or bytes (2 * k + 5) 0 }

-- the PSI byte of a frame: "The first byte of row 4" (zero where the frame is too short to have it)
unfoldable pub psi_of : ℕ → List ℕ → ℕ
psi_of k bytes = get_or bytes (3 * k + 6) 0

-- two frames have the same bytes, JC1 to JC3 apart
abbrev pub OthersSame : ℕ → List ℕ → List ℕ → Type 0
OthersSame k one two = (i : ℕ) → (i ≡ 1 → ⊥) → (i ≡ k + 3 → ⊥) → (i ≡ 2 * k + 5 → ⊥) → get_or one i 0 ≡ get_or two i 0

-- What the frame writer leaves in its buffer: the frame, where the buffer has a frame's length and
-- the client bytes fit its payload, and else what was there.
unfoldable pub frame_written : ℕ → List ℕ → Control → ℕ → List ℕ → List ℕ
frame_written k client control psi buffer =
    cond (eqb (length buffer) (frame_bytes k) && leb (length client) (payload_bytes k)) (frame k client control psi) buffer

-- What the client reader leaves in its buffer: the client bytes at its start and after them what
-- was there, where the frame has a frame's length and the count fits both its payload and the
-- buffer, and else what was there.
unfoldable pub client_taken : ℕ → ℕ → List ℕ → List ℕ → List ℕ
client_taken k C bytes out =
    cond (eqb (length bytes) (frame_bytes k) && (leb C (payload_bytes k) && leb C (length out))) (client_bytes k C bytes ++ drop C out) out

-- What was written is what is taken out: the client bytes, at the places of their number, for every
-- grid and every load that fits it, the control bytes and the PSI byte.
pub record FrameGivesBack : Type 0 where
  pub client : (k : ℕ) (client : List ℕ) (control : Control) (psi : ℕ) → length client ≤ payload_bytes k
      → client_bytes k (length client) (frame k client control psi) ≡ client
  pub control : (k : ℕ) (client : List ℕ) (control : Control) (psi : ℕ) → control_of k (frame k client control psi) ≡ control
  pub psi : (k : ℕ) (client : List ℕ) (control : Control) (psi : ℕ) → psi_of k (frame k client control psi) ≡ psi
