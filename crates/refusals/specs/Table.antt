-- Why a call is turned back (01's table of that name): numbered conditions, of which the lowest
-- that applies is the answer. Assumes nothing.
use Rattle.std.specs.Prelude.{Bool, true, false, cond, ◌&&◌, List, [], ◌∷◌, ℕ, ltb, eqb}

-- a line of the table: the number, and whether its condition applies to the call
pub record Reason : Type 0 where
  pub number : ℕ
  pub applies : Bool

abbrev pub reason : ℕ → Bool → Reason
reason n b = record { number = n; applies = b }

-- "the lowest number that applies is the answer": a call's lines stand in ascending order, so it is
-- the first; 0 where none applies
abbrev pub lowest : List Reason → ℕ
lowest [] = 0
lowest (r ∷ rs) = cond r.applies r.number (lowest rs)

-- the lines stand in ascending order, above n
abbrev pub ascending : ℕ → List Reason → Bool
ascending n [] = true
ascending n (r ∷ rs) = ltb n r.number && ascending r.number rs

-- the answer with one more line at the end of the table: a number found so far stands, and where
-- there is none, 0, the line decides
abbrev pub with_line : ℕ → Reason → ℕ
with_line n r = cond (eqb n 0) (cond r.applies r.number 0) n

-- What a call answers, as the paper gives it: what it found, or the number by which it was turned
-- back.
pub data Answer (A : Type 0) : Type 0 where
  accepted : A → Answer A
  refused : ℕ → Answer A

-- the answer of a call with this number, where it would find a
abbrev pub answer_by : {A : Type 0} → ℕ → A → Answer A
answer_by n a = cond (eqb n 0) (accepted a) (refused n)

abbrev pub accepts : {A : Type 0} → Answer A → Bool
accepts (accepted a) = true
accepts (refused n) = false
