-- The cases of a name out of a text. Assumes nothing.
use mathlib.Core.Path.{◌≡◌, refl, sym, ap, ◌∙◌}
use mathlib.Core.Bool.{Bool, true, false, cond, ◌&&◌}
use mathlib.Core.List.{List, []}
use mathlib.Core.Logic.{⊎_elim}
use lib.Seq.{take_all}
use Prim.Native.Nat.{ℕ, ◌+◌, ◌-◌, ◌≤◌}
use lib.Dec.{leb}
use native.Mathlib.Omega.{arith}
use lib.ListN.{length-drop, length, take, drop, get_or}
use borrow.Author.Tests.{leb-true, le-leb}
use Rattle.std.specs.Prelude.{Option, Some, None, MatchOption, slice_range}
use Rattle.std.specs.Slice.{IsGetRangeResult}
use denote.Bor.{Bor}
use Rattle.math.specs.Names.{start, end, Named}
use Rattle.math.proofs.Choice.{both_true}
use Rattle.program_name.specs.Name.{name_of}

module _ (text lengths : List ℕ) (n : ℕ) where
  -- the text has the name
  pub the_name : 1 ≤ n → n ≤ length lengths → end 8 lengths n ≤ length text → name_of text lengths n ≡ take (end 8 lengths n - start 8 n) (drop (start 8 n) text)
  unfolding name_of
  the_name one last within = rw (le-leb _ _ one, le-leb _ _ last, le-leb _ _ within)

  -- it does not
  pub no_name : (1 ≤ n → n ≤ length lengths → end 8 lengths n ≤ length text → ⊥) → name_of text lengths n ≡ []
  unfolding name_of
  no_name not = by (leb 1 n && (leb n (length lengths) && leb (end 8 lengths n) (length text))) refl
    where
      by : (b : Bool) → (leb 1 n && (leb n (length lengths) && leb (end 8 lengths n) (length text))) ≡ b → cond b (take (end 8 lengths n - start 8 n) (drop (start 8 n) text)) [] ≡ []
      by true e =
          let a = both_true _ _ e in
          let b = both_true _ _ a.1 in
          absurd (not (leb-true _ _ a.0) (leb-true _ _ b.0) (leb-true _ _ b.1))
      by false e = refl

  -- the part of the text behind the names before it has the name at its front, or is too short
  pub part_is : (begin size : ℕ) (rest : List ℕ) (r : Option (Bor (List ℕ))) → 1 ≤ n → n ≤ length lengths → begin ≡ start 8 n
      → length rest + begin ≡ length text → rest ≡ slice_range text begin (length text) → size ≡ get_or lengths (n - 1) 0
      → IsGetRangeResult rest 0 size r → MatchOption r (name_of text lengths n ≡ []) (λ name. name.now ≡ name_of text lengths n)
  part_is begin size rest None one last b behind e s g =
      no_name (λ x y within. ⊎_elim (λ h. omega (arith, h)) (λ h. omega (arith, h, within, b, behind, s)) g.0)
  part_is begin size rest (Some name) one last b behind e s g =
      let same : rest ≡ drop (start 8 n) text = e ∙ take_all _ (drop begin text) (omega (arith, length-drop begin text)) ∙ ap (λ (i : ℕ). drop i text) b in
      let long : size - 0 ≡ end 8 lengths n - start 8 n = omega (arith, s) in
      g.0.2 ∙ ap (λ (i : ℕ). take i rest) long ∙ ap (take (end 8 lengths n - start 8 n)) same
      ∙ sym (the_name one last (omega (arith, g.0.1, b, behind, s)))

  -- what stands in the text at a number is the name with that number
  pub named_is : (name : List ℕ) → Named 8 text lengths name n → name_of text lengths n ≡ name
  named_is name w = rw (the_name w.from_one w.to_last w.within) w.content
