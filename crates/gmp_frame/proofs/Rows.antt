-- The four rows of a frame: their lengths, and what stands in them. Assumes nothing.
use mathlib.Core.Path.{◌≡◌, refl, sym, ap, ◌∙◌}
use mathlib.Core.List.{List, [], ◌∷◌, ◌++◌, append_assoc, append-nil}
use Prim.Native.Nat.{ℕ, ◌+◌, ◌*◌, ◌≤◌, ◌<◌}
use native.Mathlib.Nat.{mul-le-mul_right}
use native.Mathlib.Omega.{arith}
use lib.ListN.{length, get_or, length-append, length-take, length-drop}
use lib.Seq.{take_at, drop-append-add, get_or-append-add}
use Rattle.gmp_frame.specs.declared.Control.{Control}
use Rattle.gmp_places.specs.Places.{placed, tabulate}
use Rattle.gmp_frame.specs.Frame.{row, frame, columns, payload}
use Rattle.gmp_places.proofs.Steps.{length_tabulate, tabulate_append}

-- a row is two bytes longer than its payload
pub length_row : (k : ℕ) (client : List ℕ) (r a b : ℕ) → length (row k client r a b) ≡ k + 2
unfolding row
length_row k client r a b = omega (arith, length_tabulate (placed (length client) (4 * k) client) (r * k) k)

-- the row r, with its first two bytes a and b, stands at its place in a frame
pub record Stands (k : ℕ) (client : List ℕ) (r a b : ℕ) (bytes : List ℕ) : Type 0 where
  before : List ℕ
  after : List ℕ
  split : bytes ≡ before ++ (row k client r a b ++ after)
  start : length before ≡ r * (k + 2)

module _ {k : ℕ} {client : List ℕ} {r a b : ℕ} {bytes : List ℕ} (s : Stands k client r a b bytes) where
  -- its first byte, its second byte, and its payload bytes
  pub first : (n : ℕ) → n ≡ r * (k + 2) → get_or bytes n 0 ≡ a
  unfolding row
  first n e = let z : n ≡ length s.before + 0 = omega (arith, s.start) in rw (z, s.split, get_or-append-add)

  pub second : (n : ℕ) → n ≡ r * (k + 2) + 1 → get_or bytes n 0 ≡ b
  unfolding row
  second n e = rw (e, s.split, ← s.start, get_or-append-add)

  column : columns k bytes r ≡ tabulate (placed (length client) (4 * k) client) (r * k) k
  unfolding columns row
  column =
      let x = tabulate (placed (length client) (4 * k) client) (r * k) k in
      rw (
        s.split,
        ← s.start,
        drop-append-add s.before (a ∷ b ∷ x ++ s.after) 2,
        take_at x s.after k (length_tabulate (placed (length client) (4 * k) client) (r * k) k),
      )

module _ (k : ℕ) (client : List ℕ) (control : Control) (psi : ℕ) where
  abbrev r0 : List ℕ
  r0 = row k client 0 0 control.jc1

  abbrev r1 : List ℕ
  r1 = row k client 1 0 control.jc2

  abbrev r2 : List ℕ
  r2 = row k client 2 0 control.jc3

  abbrev r3 : List ℕ
  r3 = row k client 3 psi 0

  pub row0 : Stands k client 0 0 control.jc1 (frame k client control psi)
  unfolding frame
  row0 = record { before = []; after = r1 ++ (r2 ++ r3); split = refl; start = omega arith }

  pub row1 : Stands k client 1 0 control.jc2 (frame k client control psi)
  unfolding frame
  row1 = record { before = r0; after = r2 ++ r3; split = refl; start = omega (arith, length_row k client 0 0 control.jc1) }

  pub row2 : Stands k client 2 0 control.jc3 (frame k client control psi)
  unfolding frame
  row2 = record { before = r0 ++ r1; after = r3; split = sym (append_assoc r0 r1 (r2 ++ r3)); start = simp (length-append, length_row) (omega arith) }

  pub row3 : Stands k client 3 psi 0 (frame k client control psi)
  unfolding frame
  row3 = record { before = r0 ++ (r1 ++ r2); after = []; split = simp (append_assoc, append-nil); start = simp (length-append, length_row) (omega arith) }

  -- "The payload bytes, in row order": row by row they are one table of values
  pub payload_frame : payload k (frame k client control psi) ≡ tabulate (placed (length client) (4 * k) client) 0 (4 * k)
  unfolding payload
  payload_frame =
      let f = placed (length client) (4 * k) client in
      let q : 4 * k ≡ k + (k + (k + k)) = omega arith in
      let n1 : 0 + k ≡ 1 * k = omega arith in
      let n2 : 1 * k + k ≡ 2 * k = omega arith in
      let n3 : 2 * k + k ≡ 3 * k = omega arith in
      let z : 0 * k ≡ 0 = omega arith in
      rw (column row0, column row1, column row2, column row3)
      (sym (ap (tabulate f 0) q ∙ rw (tabulate_append f 0 k (k + (k + k)), n1, tabulate_append f (1 * k) k (k + k), n2, tabulate_append f (2 * k) k k, n3, z)))

-- row r lies within a frame
pub row_within : (r k : ℕ) → r < 4 → r * (k + 2) + (k + 2) ≤ 4 * k + 8
row_within r k h = let l : r ≤ 3 = omega arith in omega (arith, mul-le-mul_right (k + 2) l)

pub length_columns : (k r : ℕ) (bytes : List ℕ) → length bytes ≡ 4 * k + 8 → r < 4 → length (columns k bytes r) ≡ k
unfolding columns
length_columns k r bytes l h = simp (length-take, length-drop) (omega (arith, row_within r k h))

pub length_payload : (k : ℕ) (bytes : List ℕ) → length bytes ≡ 4 * k + 8 → length (payload k bytes) ≡ 4 * k
unfolding payload
length_payload k bytes l =
    let l0 = length_columns k 0 bytes l (omega arith) in
    let l1 = length_columns k 1 bytes l (omega arith) in
    let l2 = length_columns k 2 bytes l (omega arith) in
    let l3 = length_columns k 3 bytes l (omega arith) in
    simp length-append (omega arith)
