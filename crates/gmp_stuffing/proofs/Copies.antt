-- Laws of a copy: of no byte, of one byte more, what stands before it, in it and after it, over the
-- end of an earlier copy, and by way of an array. Assumes nothing.
use mathlib.Core.Path.{◌≡◌, sym, ap, ◌∙◌}
use mathlib.Core.List.{List, [], ◌∷◌, ◌++◌, append_assoc, append-nil}
use Prim.Native.Nat.{ℕ, ◌+◌, ◌-◌, ◌≤◌, ◌<◌}
use native.Mathlib.Numerals.{add-one}
use native.Mathlib.Omega.{arith}
use lib.ListN.{length, get_or, take, drop, set, length-take, length-drop}
use lib.Seq.{take_all, drop-length, length-take-le, take-take, take-add, take-append-le, take-append-add, drop-append-add, drop-drop, drop-cons, get_or-drop, set_at, append_snoc, paste-zero, paste-suc, length-paste, length_paste_head}
use Rattle.gmp_stuffing.specs.Copied.{copied}

-- A list that begins with p and goes on with d after as many bytes: what stands further on, and one
-- byte stored behind p.
pub drop_past : (p d : List ℕ) (i k : ℕ) → length p ≡ i → drop (i + k) (p ++ drop i d) ≡ drop (i + k) d
drop_past p d i k l = ap (λ (n : ℕ). drop (n + k) (p ++ drop i d)) (sym l) ∙ drop-append-add p (drop i d) k ∙ drop-drop k i d

pub store_more : (p d : List ℕ) (j x : ℕ) → length p ≡ j → j < length d → set (p ++ drop j d) j x ≡ (p ++ (x ∷ [])) ++ drop (j + 1) d
store_more p d j x e h = rw (drop-cons d j 0, set_at p _ _ x j e, append_snoc, add-one)

module _ (d : List ℕ) (i : ℕ) (s : List ℕ) (j : ℕ) where
  pub copied_none : d ≡ copied d i s j 0
  copied_none = paste-zero d i (drop j s)

  pub length_copied : (k : ℕ) → i + k ≤ length d → j + k ≤ length s → length (copied d i s j k) ≡ length d
  length_copied k h l = length-paste d i (drop j s) k h (simp length-drop (omega arith))

  pub copied_more : (k : ℕ) → i + k < length d → j + k < length s → set (copied d i s j k) (i + k) (get_or s (j + k) 0) ≡ copied d i s j (k + 1)
  copied_more k h l =
      let lt : k < length (drop j s) = simp length-drop (omega arith) in
      rw (add-one k, ← get_or-drop j s k 0) (paste-suc d i (drop j s) k 0 h lt)

  -- up to m bytes of a copy, and what comes after it
  module _ (k : ℕ) (hd : i ≤ length d) (hs : j + k ≤ length s) where
    ends : length (take i d ++ take k (drop j s)) ≡ i + k
    ends = length_paste_head d i (drop j s) k hd (simp length-drop (omega arith))

    pub copied_front : (m : ℕ) → m ≤ k → take (i + m) (copied d i s j k) ≡ take i d ++ take m (drop j s)
    copied_front m l =
        take-append-le (i + m) (take i d ++ take k (drop j s)) (drop (i + k) d) (omega (arith, ends))
        ∙ ap (λ (n : ℕ). take (n + m) (take i d ++ take k (drop j s))) (sym (length-take-le i d hd))
        ∙ take-append-add (take i d) (take k (drop j s)) m
        ∙ rw (take-take m k (drop j s) l)

    pub copied_after : (e : ℕ) → i + k ≤ e → drop e (copied d i s j k) ≡ drop e d
    copied_after e l =
        let f : e ≡ i + k + (e - (i + k)) = omega arith in
        rw f (drop_past (take i d ++ take k (drop j s)) d (i + k) (e - (i + k)) ends)

  -- a second copy that begins within the first and ends no earlier
  pub copied_copied : (k a n : ℕ) → i + k ≤ length d → j + k ≤ length s → a ≤ k → k ≤ a + n
      → copied (copied d i s j k) (i + a) s (j + a) n ≡ copied d i s j (a + n)
  copied_copied k a n hd hs ha hn =
      let h : i ≤ length d = omega arith in
      let e : i + a + n ≡ i + (a + n) = omega arith in
      rw (
        copied_front k h hs a ha,
        e,
        copied_after k h hs (i + (a + n)) (omega arith),
        take-add a n (drop j s),
        drop-drop a j s,
        append_assoc (take i d) (take a (drop j s)) (take n (drop (j + a) s)),
      )

  -- a copy by way of an array
  pub copied_through : (n : ℕ) (z : List ℕ) → length z ≡ n → j + n ≤ length s → copied d i (copied z 0 s j n) 0 n ≡ copied d i s j n
  copied_through n z lz hs =
      let l : length (take n (drop j s)) ≡ n = simp (length-take, length-drop) (omega arith) in
      let e : 0 + n ≡ length z = omega arith in
      rw (e, drop-length, append-nil (take n (drop j s)), take_all n (take n (drop j s)) (omega arith))
