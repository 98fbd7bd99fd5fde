-- What other crates cite: that a frame gives back what was written to it, and what is left in a
-- buffer where all fits. Assumes nothing.
use mathlib.Core.Path.{◌≡◌, refl, ap, ap₂, ◌∙◌}
use mathlib.Core.List.{List, [], ◌∷◌, ◌++◌}
use Prim.Native.Nat.{ℕ, zero, suc, ◌+◌, ◌*◌, ◌≤◌, ◌<◌}
use native.Mathlib.Omega.{arith}
use lib.ListN.{length, get_or, take, drop, length-append}
use lib.Seq.{take-length}
use borrow.Author.Tests.{eq-eqb, le-leb}
use Rattle.gmp_settings.specs.Grid.{payload_bytes, frame_bytes}
use Rattle.gmp_frame.specs.declared.Control.{Control}
use Rattle.gmp_frame.specs.Frame.{frame, columns, payload, client_bytes, control_of, psi_of, OthersSame, frame_written, client_taken}
use Rattle.gmp_places.specs.Places.{chosen}
use Rattle.gmp_places.proofs.Steps.{count_all, length_first, chosen_placed}
use Rattle.gmp_frame.proofs.Rows.{length_row, length_payload, payload_frame, first, second, row0, row1, row2, row3}

-- "4K + 8 bytes in all"
pub length_frame : (k : ℕ) (client : List ℕ) (control : Control) (psi : ℕ) → length (frame k client control psi) ≡ frame_bytes k
unfolding frame
length_frame k client control psi = simp (length-append, length_row) (omega arith)

-- the control bytes of a frame are those that were written
pub control_written : (k : ℕ) (client : List ℕ) (control : Control) (psi : ℕ) → control_of k (frame k client control psi) ≡ control
unfolding control_of
control_written k client control psi =
    rw (
      second (row0 k client control psi) 1 (omega arith),
      second (row1 k client control psi) (k + 3) (omega arith),
      second (row2 k client control psi) (2 * k + 5) (omega arith),
    )

-- and so is the PSI byte
pub psi_written : (k : ℕ) (client : List ℕ) (control : Control) (psi : ℕ) → psi_of k (frame k client control psi) ≡ psi
unfolding psi_of
psi_written k client control psi = first (row3 k client control psi) (3 * k + 6) (omega arith)

-- "what was written is what is taken out"
pub client_taken_lem : (k : ℕ) (client : List ℕ) (control : Control) (psi : ℕ) → length client ≤ payload_bytes k
    → client_bytes k (length client) (frame k client control psi) ≡ client
unfolding client_bytes
client_taken_lem k client control psi le =
    rw (payload_frame k client control psi, chosen_placed (4 * k) client le (4 * k) (omega arith), count_all (length client) (4 * k) le, take-length)

-- Two lists of one length that agree at k places from m on have the same bytes there.
same_first : (k : ℕ) (l l' : List ℕ) → length l ≡ length l' → ((i : ℕ) → i < k → get_or l i 0 ≡ get_or l' i 0) → take k l ≡ take k l'
same_first zero l l' e h = refl
same_first (suc k) [] [] e h = refl
same_first (suc k) [] (y ∷ l') e h = absurd (omega arith)
same_first (suc k) (x ∷ l) [] e h = absurd (omega arith)
same_first (suc k) (x ∷ l) (y ∷ l') e h =
    ap₂ (λ (b : ℕ) (bs : List ℕ). b ∷ bs) (h 0 (omega arith)) (same_first k l l' (omega arith) (λ i low. h (suc i) (omega arith)))

same_part : (m k : ℕ) (l l' : List ℕ) → length l ≡ length l' → ((i : ℕ) → m ≤ i → i < m + k → get_or l i 0 ≡ get_or l' i 0)
    → take k (drop m l) ≡ take k (drop m l')
same_part zero k l l' e h = same_first k l l' e (λ i low. h i (omega arith) (omega arith))
same_part (suc m) k [] [] e h = refl
same_part (suc m) k [] (y ∷ l') e h = absurd (omega arith)
same_part (suc m) k (x ∷ l) [] e h = absurd (omega arith)
same_part (suc m) k (x ∷ l) (y ∷ l') e h = same_part m k l l' (omega arith) (λ i low high. h (suc i) (omega arith) (omega arith))

-- the client bytes do not hang on the control bytes
pub others_client : (k C : ℕ) (bytes bytes' : List ℕ) → length bytes ≡ length bytes' → OthersSame k bytes bytes' → client_bytes k C bytes ≡ client_bytes k C bytes'
unfolding client_bytes payload columns
others_client k C bytes bytes' e h =
    let a = same_part (0 * (k + 2) + 2) k bytes bytes' e (λ i low high. h i (λ z. omega arith) (λ z. omega arith) (λ z. omega arith)) in
    let b = same_part (1 * (k + 2) + 2) k bytes bytes' e (λ i low high. h i (λ z. omega arith) (λ z. omega arith) (λ z. omega arith)) in
    let c = same_part (2 * (k + 2) + 2) k bytes bytes' e (λ i low high. h i (λ z. omega arith) (λ z. omega arith) (λ z. omega arith)) in
    let d = same_part (3 * (k + 2) + 2) k bytes bytes' e (λ i low high. h i (λ z. omega arith) (λ z. omega arith) (λ z. omega arith)) in
    ap (chosen C (payload_bytes k) 0) (ap₂ ◌++◌ a (ap₂ ◌++◌ b (ap₂ ◌++◌ c d)))

-- nor does the PSI byte
pub others_psi : (k : ℕ) (bytes bytes' : List ℕ) → OthersSame k bytes bytes' → psi_of k bytes ≡ psi_of k bytes'
unfolding psi_of
others_psi k bytes bytes' h = h (3 * k + 6) (λ z. omega arith) (λ z. omega arith) (λ z. omega arith)

-- as many client bytes are taken out of a frame as the count says
pub length_client : (k C : ℕ) (bytes : List ℕ) → C ≤ payload_bytes k → length bytes ≡ frame_bytes k → length (client_bytes k C bytes) ≡ C
unfolding client_bytes
length_client k C bytes le l = length_first C (4 * k) le (payload k bytes) ∙ rw (length_payload k bytes l, count_all C (4 * k) le)

-- a buffer of a frame's length holds the frame, where the client bytes fit
pub written_fits : (k : ℕ) (client : List ℕ) (control : Control) (psi : ℕ) (buffer : List ℕ) → length buffer ≡ frame_bytes k → length client ≤ payload_bytes k
    → frame_written k client control psi buffer ≡ frame k client control psi
unfolding frame_written
written_fits k client control psi buffer l le = simp (eq-eqb (length buffer) (4 * k + 8) l, le-leb (length client) (4 * k) le)

-- a buffer with room for them begins with the client bytes of the frame, where the count fits
pub taken_fits : (k C : ℕ) (bytes out : List ℕ) → length bytes ≡ frame_bytes k → C ≤ payload_bytes k → C ≤ length out
    → client_taken k C bytes out ≡ client_bytes k C bytes ++ drop C out
unfolding client_taken
taken_fits k C bytes out l le room =
    simp (eq-eqb (length bytes) (4 * k + 8) l, le-leb C (4 * k) le, le-leb C (length out) room)
