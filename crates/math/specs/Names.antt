-- Names in one text, each filled up with blanks to one width: a name is cut out of it by its
-- number, from 1. Assumes nothing.
use Rattle.std.specs.Prelude.{◌≡◌, List, ℕ, ◌+◌, ◌-◌, ◌*◌, ◌≤◌, length, take, drop, get_or}

-- where the name with the number n begins in a text of names of this width, and where it ends
abbrev pub start : ℕ → ℕ → ℕ
start width n = width * (n - 1)

abbrev pub end : ℕ → List ℕ → ℕ → ℕ
end width lengths n = start width n + get_or lengths (n - 1) 0

-- the name with the number n stands in the text
pub record Named (width : ℕ) (text lengths name : List ℕ) (n : ℕ) : Type 0 where
  pub from_one : 1 ≤ n
  pub to_last : n ≤ length lengths
  pub within : end width lengths n ≤ length text
  pub content : take (end width lengths n - start width n) (drop (start width n) text) ≡ name
