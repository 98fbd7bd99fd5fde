-- A buffer that is filled from left to right: what a loop keeps that copies runs, or stores single
-- bytes, one behind the other. Assumes nothing.
use mathlib.Core.Path.{◌≡◌, refl, sym, ◌∙◌}
use mathlib.Core.List.{List}
use Prim.Native.Nat.{ℕ, ◌+◌, ◌≤◌, ◌<◌}
use native.Mathlib.Numerals.{add-one}
use native.Mathlib.Omega.{arith}
use lib.ListN.{length, get_or, take, drop, set, length-take, length-drop, length-set, take-append-drop, drop_of_length-le}
use lib.Seq.{take-suc, take-add, take-suc-set, take-take, drop-set-lt, get_or-take, get_or-drop, ext_get_or}
use Rattle.gmp_stuffing.specs.Copied.{copied}
use Rattle.gmp_stuffing.proofs.Copies.{length_copied, copied_front, copied_after}

-- Below n the buffer is as it shall be, and from e on it is so as well: what is written to it may
-- reach up to e.
pub record Filled (e n : ℕ) (target buffer : List ℕ) : Type 0 where
  pub same : length buffer ≡ length target
  pub below : take n buffer ≡ take n target
  pub above : drop e buffer ≡ drop e target

-- a buffer of the target's length, of which nothing is to be kept
pub filled_none : (target buffer : List ℕ) (e : ℕ) → length buffer ≡ length target → e ≡ length target → Filled e 0 target buffer
filled_none target buffer e l f =
    record { same = l; below = refl; above = drop_of_length-le buffer {i = e} (omega (arith, l, f)) ∙ sym (drop_of_length-le target {i = e} (omega (arith, f))) }

module _ {e n : ℕ} {target buffer : List ℕ} (v : Filled e n target buffer) where
  -- all is done where the two meet
  pub filled_all : n ≡ e → buffer ≡ target
  filled_all f = sym (take-append-drop n buffer) ∙ rw (v.below, f, v.above) (take-append-drop e target)

  -- what is filled up to n is filled up to less
  pub filled_less : (m : ℕ) → m ≤ n → Filled e m target buffer
  filled_less m h = record {
    same = v.same;
    below = sym (take-take m n buffer h) ∙ rw v.below (take-take m n target h);
    above = v.above;
  }

  -- one byte more
  pub filled_store : (x : ℕ) → n < e → e ≤ length target → get_or target n 0 ≡ x → Filled e (n + 1) target (set buffer n x)
  filled_store x lt le f = record {
    same = length-set buffer n x ∙ v.same;
    below = rw (add-one n, take-suc-set buffer n x (omega (arith, v.same)), v.below, take-suc target n 0 (omega arith), f);
    above = drop-set-lt e buffer n x lt ∙ v.above;
  }

  -- A block of b bytes of s, the first m of which are the next ones. What it writes too much is
  -- written again by what comes after.
  pub filled_copy : (s : List ℕ) (j b m : ℕ) → m ≤ b → n + b ≤ e → e ≤ length target → j + b ≤ length s
      → ((i : ℕ) → i < m → get_or target (n + i) 0 ≡ get_or s (j + i) 0) → Filled e (n + m) target (copied buffer n s j b)
  filled_copy s j b m le room into there f =
      let ln : n ≤ length buffer = omega (arith, v.same) in
      let lm : length (take m (drop j s)) ≡ m = simp (length-take, length-drop) (omega arith) in
      let lt : length (take m (drop n target)) ≡ m = simp (length-take, length-drop) (omega arith) in
      let next : take m (drop j s) ≡ take m (drop n target) =
      ext_get_or 0 (take m (drop j s)) (take m (drop n target)) (lm ∙ sym lt) (λ i h.
      let h' : i < m = rw lm at h in
      get_or-take m (drop j s) i 0 h' ∙ get_or-drop j s i 0 ∙ sym (f i h') ∙ sym (get_or-drop n target i 0) ∙ sym (get_or-take m (drop n target) i 0 h')) in
      record {
        same = length_copied buffer n s j b (omega (arith, v.same)) there ∙ v.same;
        below = copied_front buffer n s j b ln there m le ∙ rw (v.below, next, take-add n m target);
        above = copied_after buffer n s j b ln there e room ∙ v.above;
      }
