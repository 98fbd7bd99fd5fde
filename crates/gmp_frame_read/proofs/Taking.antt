-- The client bytes of the four rows of a frame, taken out one row after the other. Assumes nothing.
use mathlib.Core.Path.{◌≡◌, ◌∙◌}
use mathlib.Core.List.{List, [], ◌++◌, append_assoc}
use Prim.Native.Nat.{ℕ, ◌+◌, ◌-◌, ◌*◌, ◌/◌, ◌≤◌}
use native.Mathlib.Nat.{zero-div, zero-mul}
use native.Mathlib.Omega.{arith}
use lib.ListN.{length, take, drop, length-append}
use lib.Seq.{take_at}
use Rattle.gmp_places.specs.Places.{chosen}
use Rattle.gmp_stuffing.proofs.Copies.{drop_past}
use Rattle.gmp_places.proofs.Steps.{count_all, length_first, length_chosen, chosen_append}
use Rattle.gmp_frame.specs.Frame.{columns, payload, client_bytes}
use Rattle.gmp_frame.proofs.Rows.{length_columns}

-- the part of a frame that is lent for row r
pub as_column : (k r : ℕ) (bytes : List ℕ) → take (r * (k + 2) + 2 + k - (r * (k + 2) + 2)) (drop (r * (k + 2) + 2) bytes) ≡ columns k bytes r
unfolding columns
as_column k r bytes = let e : r * (k + 2) + 2 + k - (r * (k + 2) + 2) ≡ k = omega arith in rw e

-- the client bytes of p copied behind those of q, where p follows q in the payload
take_next : (C S : ℕ) → C ≤ S → (q p d x y : List ℕ) (n k : ℕ) → length q ≡ n → length p ≡ k
    → x ≡ chosen C S 0 q ++ drop (n * C / S) d
    → y ≡ (take (n * C / S) x ++ chosen C S n p) ++ drop ((n + k) * C / S) x
    → y ≡ chosen C S 0 (q ++ p) ++ drop ((n + k) * C / S) d
take_next C S le q p d x y n k lq lp ex ey =
    let zn : 0 + n ≡ n = omega arith in
    let cq : length (chosen C S 0 q) ≡ n * C / S = rw (length_first C S le q, lq) in
    let cp : n * C / S + length (chosen C S n p) ≡ (n + k) * C / S = omega (arith, rw lp at (length_chosen C S le n p)) in
    let past = rw cp at (drop_past (chosen C S 0 q) d (n * C / S) (length (chosen C S n p)) cq) in
    ey ∙ rw (ex, take_at (chosen C S 0 q) (drop (n * C / S) d) (n * C / S) cq, past, chosen_append, lq, zn)

-- the client bytes of the four rows, copied one row after the other
pub four_taken : (C k : ℕ) (bytes d o1 o2 o3 o4 : List ℕ) → C ≤ 4 * k → length bytes ≡ 4 * k + 8
    → o1 ≡ (take (0 * k * C / (4 * k)) d ++ chosen C (4 * k) (0 * k) (columns k bytes 0)) ++ drop ((0 * k + k) * C / (4 * k)) d
    → o2 ≡ (take (1 * k * C / (4 * k)) o1 ++ chosen C (4 * k) (1 * k) (columns k bytes 1)) ++ drop ((1 * k + k) * C / (4 * k)) o1
    → o3 ≡ (take (2 * k * C / (4 * k)) o2 ++ chosen C (4 * k) (2 * k) (columns k bytes 2)) ++ drop ((2 * k + k) * C / (4 * k)) o2
    → o4 ≡ (take (3 * k * C / (4 * k)) o3 ++ chosen C (4 * k) (3 * k) (columns k bytes 3)) ++ drop ((3 * k + k) * C / (4 * k)) o3
    → o4 ≡ client_bytes k C bytes ++ drop C d
unfolding client_bytes payload chosen
four_taken C k bytes d o1 o2 o3 o4 le l e1 e2 e3 e4 =
    let c0 = columns k bytes 0 in
    let c1 = columns k bytes 1 in
    let c2 = columns k bytes 2 in
    let c3 = columns k bytes 3 in
    let l0 = length_columns k 0 bytes l (omega arith) in
    let l1 = length_columns k 1 bytes l (omega arith) in
    let l2 = length_columns k 2 bytes l (omega arith) in
    let l3 = length_columns k 3 bytes l (omega arith) in
    let n0 : 0 * k ≡ 0 = omega arith in
    let n1 : 0 * k + k ≡ 1 * k = omega arith in
    let n2 : 1 * k + k ≡ 2 * k = omega arith in
    let n3 : 2 * k + k ≡ 3 * k = omega arith in
    let n4 : 3 * k + k ≡ 4 * k = omega arith in
    let z : d ≡ drop (0 * k * C / (4 * k)) d = rw (n0, zero-mul C, zero-div (4 * k)) in
    let h1 = rw n1 at (take_next C (4 * k) le [] c0 d d o1 (0 * k) k (omega arith) l0 z e1) in
    let h2 = rw n2 at (take_next C (4 * k) le c0 c1 d o1 o2 (1 * k) k (omega arith) l1 h1 e2) in
    let h3 = rw n3 at (take_next C (4 * k) le (c0 ++ c1) c2 d o2 o3 (2 * k) k (rw length-append (omega arith)) l2 h2 e3) in
    let h4 = rw n4 at (take_next C (4 * k) le ((c0 ++ c1) ++ c2) c3 d o3 o4 (3 * k) k (rw (length-append, length-append c0 c1) (omega arith)) l3 h3 e4) in
    h4 ∙ rw (count_all C (4 * k) le, append_assoc (c0 ++ c1) c2 c3, append_assoc c0 c1 (c2 ++ c3))
