-- How a number is read digit by digit: a number that leaves 32 bits does not come back. Assumes
-- nothing.
use mathlib.Core.Path.{◌≡◌, refl, sym, ap, ◌∙◌}
use mathlib.Core.Bool.{Bool, true, false, cond, ◌||◌}
use mathlib.Core.List.{List, [], ◌∷◌}
use Prim.Native.Nat.{ℕ, zero, suc, ◌+◌, ◌<◌, ◌≤◌}
use native.Mathlib.Omega.{arith}
use lib.Dec.{ltb}
use lib.ListN.{length, get_or, drop}
use lib.Seq.{drop-cons}
use borrow.Author.Tests.{ltb-true, lt-ltb, le-ltb}
use Rattle.std.specs.Prelude.{Option, Some, None}
use Rattle.program_decimal.specs.Number.{no_digit, stray, appended, value_from, fitted, with_digit, number_from}

-- what is left of the text goes on from a number, and from none there is none
abbrev pub onwards : Option ℕ → List ℕ → Option ℕ
onwards (Some n) s = number_from n s
onwards None s = None

-- a number with digits behind it is no smaller
grows : (n : ℕ) (s : List ℕ) → n ≤ value_from n s
unfolding value_from
grows n [] = omega arith
grows n (d ∷ s) = let later : appended n d ≤ value_from (appended n d) s = grows (appended n d) s in omega (arith, later)

too_large : (n : ℕ) (s : List ℕ) → 4294967295 < n → cond (stray s) None (fitted (value_from n s)) ≡ None
too_large n s h = by (stray s)
  where
    by : (b : Bool) → cond b None (fitted (value_from n s)) ≡ None
    by true = refl
    by false =
        let g : n ≤ value_from n s = grows n s in
        let l : 4294967295 < value_from n s = omega (arith, g, h) in
        simp (lt-ltb _ _ l)

-- one digit of the text
one_more : (n d : ℕ) (s : List ℕ) → number_from n (d ∷ s) ≡ onwards (with_digit n d) s
unfolding number_from stray value_from
one_more n d s = by (no_digit d) (ltb 4294967295 (appended n d)) refl
  where
    by : (b t : Bool) → ltb 4294967295 (appended n d) ≡ t
        → cond (b || stray s) None (fitted (value_from (appended n d) s)) ≡ onwards (cond b None (cond t None (Some (appended n d)))) s
    by true t e = refl
    by false true e = too_large (appended n d) s (ltb-true _ _ e)
    by false false e = refl

pub moves : (s : List ℕ) (n i : ℕ) (r : Option ℕ) → i < length s → r ≡ with_digit n (get_or s i 0) → number_from n (drop i s) ≡ onwards r (drop (i + 1) s)
moves s n i r h e =
    let one : suc i ≡ i + 1 = omega arith in
    ap (number_from n) (drop-cons s i 0 h) ∙ one_more n (get_or s i 0) (drop (suc i) s)
    ∙ ap (λ (x : Option ℕ). onwards x (drop (suc i) s)) (sym e) ∙ ap (λ (k : ℕ). onwards r (drop k s)) one

-- past the last digit
past : (s : List ℕ) (i : ℕ) → length s ≤ i → drop i s ≡ []
past [] zero h = refl
past [] (suc i) h = refl
past (d ∷ s) zero h = absurd (omega (arith, h))
past (d ∷ s) (suc i) h = past s i (omega (arith, h))

whole : (n : ℕ) → n < 4294967296 → number_from n [] ≡ Some n
unfolding number_from stray value_from
whole n h = let l : n ≤ 4294967295 = omega (arith, h) in simp (le-ltb _ _ l)

pub ends : (s : List ℕ) (n i : ℕ) → length s ≤ i → n < 4294967296 → number_from n (drop i s) ≡ Some n
ends s n i h l = ap (number_from n) (past s i h) ∙ whole n l
