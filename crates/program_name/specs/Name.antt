-- A name out of a text of names in 8 bytes each, by its number, from 1. It is empty if the text has
-- no such name. Assumes nothing.
use Rattle.std.specs.Prelude.{cond, ◌&&◌, List, [], ℕ, ◌-◌, leb, length, take, drop}
use Rattle.math.specs.Names.{start, end}

unfoldable pub name_of : List ℕ → List ℕ → ℕ → List ℕ
name_of text lengths n =
    cond (leb 1 n && (leb n (length lengths) && leb (end 8 lengths n) (length text)))
    (take (end 8 lengths n - start 8 n) (drop (start 8 n) text))
    []
