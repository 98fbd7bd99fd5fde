-- A copy from one list into another. Assumes nothing.
use Rattle.std.specs.Prelude.{ℕ, ◌+◌, List, ◌++◌, take, drop}

-- d with k elements of s, from j on, in the place of those from i on
abbrev pub copied : List ℕ → ℕ → List ℕ → ℕ → ℕ → List ℕ
copied d i s j k = (take i d ++ take k (drop j s)) ++ drop (i + k) d
