-- A state after inputs, one after the other: the kit's `foldl`, and one input more. Assumes
-- nothing.
use mathlib.Core.Path.{◌≡◌, sym, ap, ◌∙◌}
use mathlib.Core.List.{List, [], ◌∷◌, ◌++◌, foldl, foldl-append}

pub fold_next : {S F : Type 0} (step : S → F → S) (s r r' : S) (inputs : List F) (x : F) → r ≡ foldl step s inputs → r' ≡ step r x
    → r' ≡ foldl step s (inputs ++ (x ∷ []))
fold_next step s r r' inputs x e e' = e' ∙ ap (λ z. step z x) e ∙ sym (foldl-append step s inputs (x ∷ []))
