-- The four rows of a frame, written one after the other into a buffer. Assumes nothing.
use mathlib.Core.Path.{◌≡◌, sym, ap, ◌∙◌}
use mathlib.Core.List.{List, [], ◌∷◌, ◌++◌, append_assoc, append-nil}
use Prim.Native.Nat.{ℕ, ◌+◌, ◌-◌, ◌*◌, ◌≤◌}
use native.Mathlib.Omega.{arith}
use lib.ListN.{length, take, drop, set, length-append, take-append-drop}
use lib.Seq.{take_at, drop_at, drop-drop, drop-length, length-take-le}
use borrow.Rule.Slice.PartMut.{put_mid}
use Rattle.gmp_stuffing.proofs.Copies.{drop_past, store_more}
use Rattle.gmp_frame.specs.declared.Control.{Control}
use Rattle.gmp_frame.specs.Frame.{row, frame}
use Rattle.gmp_frame.proofs.Rows.{length_row}

-- two bytes stored at i and i + 1, and the k bytes after them lent and come back as `new`
pub row_stored : (d new : List ℕ) (i k a b : ℕ) → i + 2 ≤ length d
    → put_mid (i + 2) (i + 2 + k - (i + 2)) (set (set d i a) (i + 1) b) new ≡ (take i d ++ (a ∷ b ∷ new)) ++ drop (i + (k + 2)) d
row_stored d new i k a b h =
    let p = take i d in
    let l : length p ≡ i = length-take-le i d (omega arith) in
    let pa = p ++ (a ∷ []) in
    let la : length pa ≡ i + 1 = rw length-append (omega arith) in
    let pb = pa ++ (b ∷ []) in
    let lb : length pb ≡ i + 2 = rw length-append (omega arith) in
    let i2 : i + 1 + 1 ≡ i + 2 = omega arith in
    let sa : set d i a ≡ pa ++ drop (i + 1) d = ap (λ (x : List ℕ). set x i a) (sym (take-append-drop i d)) ∙ store_more p d i a l (omega arith) in
    let sb : set (set d i a) (i + 1) b ≡ pb ++ drop (i + 2) d = rw (sa, store_more pa d (i + 1) b la (omega arith), i2) in
    let n : i + 2 + (i + 2 + k - (i + 2)) ≡ i + (k + 2) = omega arith in
    rw (sb, take_at pb (drop (i + 2) d) (i + 2) lb, drop_at pb (drop (i + 2) d) (i + 2) lb, drop-drop (i + 2 + k - (i + 2)) (i + 2) d, n) (simp append_assoc)

-- a row put behind p, where what comes after p is as in d
put_next : (p d x y w : List ℕ) (n m : ℕ) → length p ≡ n → x ≡ p ++ drop n d → y ≡ (take n x ++ w) ++ drop (n + m) x → y ≡ (p ++ w) ++ drop (n + m) d
put_next p d x y w n m l ex ey = ey ∙ rw (ex, take_at p (drop n d) n l, drop_past p d n m l)

module _ (k : ℕ) (client : List ℕ) (control : Control) (psi : ℕ) where
  abbrev r0 : List ℕ
  r0 = row k client 0 0 control.jc1

  abbrev r1 : List ℕ
  r1 = row k client 1 0 control.jc2

  abbrev r2 : List ℕ
  r2 = row k client 2 0 control.jc3

  abbrev r3 : List ℕ
  r3 = row k client 3 psi 0

  -- the four rows written one after the other over the bytes d are the frame
  pub frame_written_lem : (d b0 b1 b2 b3 : List ℕ) → length d ≡ 4 * k + 8
      → let w = k + 2 in
      b0 ≡ (take (0 * w) d ++ r0) ++ drop (0 * w + w) d
      → b1 ≡ (take (1 * w) b0 ++ r1) ++ drop (1 * w + w) b0
      → b2 ≡ (take (2 * w) b1 ++ r2) ++ drop (2 * w + w) b1
      → b3 ≡ (take (3 * w) b2 ++ r3) ++ drop (3 * w + w) b2
      → b3 ≡ frame k client control psi
  unfolding frame
  frame_written_lem d b0 b1 b2 b3 l e0 e1 e2 e3 =
      let w = k + 2 in
      let n0 : 0 * w ≡ 0 = omega arith in
      let n1 : 0 * w + w ≡ 1 * w = omega arith in
      let n2 : 1 * w + w ≡ 2 * w = omega arith in
      let n3 : 2 * w + w ≡ 3 * w = omega arith in
      let n4 : 3 * w + w ≡ length d = omega arith in
      let z : d ≡ [] ++ drop (0 * w) d = rw n0 in
      let h0 = rw n1 at (put_next [] d d b0 r0 (0 * w) w (omega arith) z e0) in
      let h1 = rw n2 at (put_next r0 d b0 b1 r1 (1 * w) w (simp length_row (omega arith)) h0 e1) in
      let h2 = rw n3 at (put_next (r0 ++ r1) d b1 b2 r2 (2 * w) w (simp (length-append, length_row) (omega arith)) h1 e2) in
      let h3 = rw n4 at (put_next ((r0 ++ r1) ++ r2) d b2 b3 r3 (3 * w) w (simp (length-append, length_row) (omega arith)) h2 e3) in
      h3 ∙ rw (drop-length, append-nil, append_assoc (r0 ++ r1) r2 r3, append_assoc r0 r1 (r2 ++ r3))
