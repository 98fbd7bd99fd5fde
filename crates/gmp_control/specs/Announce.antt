-- What the source writes (01, "Control word"): "The word in a frame announces the count of the next
-- frame's payload. .. The C bits are old, exclusive-or a pattern". Both counts are taken modulo
-- 16,384. Assumes nothing.
use Rattle.std.specs.Prelude.{Bool, cond, ℕ, ◌%◌, eqb}
use Rattle.std.specs.Int.Bits.{bit_xor}
use Rattle.gmp_control.specs.Word.{modulus, moved, word_of}
use Rattle.gmp_control.specs.Pattern.{Table, pattern_at, change_at}

-- next is old after the k-th change
abbrev pub changes_by : ℕ → ℕ → ℕ → Bool
changes_by old next k = eqb (next % modulus) (moved old (change_at k))

-- the word in a frame of count old that announces the count next: the rows of the table are 0, +1,
-- −1, +2, −2 and other
unfoldable pub announced : Table → ℕ → ℕ → ℕ
announced t old next =
    cond (eqb (next % modulus) (old % modulus)) (word_of old 0 0)
    (cond (changes_by old next 0) (word_of (bit_xor old (pattern_at t 0)) 1 0)
    (cond (changes_by old next 1) (word_of (bit_xor old (pattern_at t 1)) 0 1)
    (cond (changes_by old next 2) (word_of (bit_xor old (pattern_at t 2)) 1 0)
    (cond (changes_by old next 3) (word_of (bit_xor old (pattern_at t 3)) 0 1)
    (word_of next 1 1)))))
