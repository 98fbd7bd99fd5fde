-- What the readers of a control word may rely on (02, P1). Assumes nothing.
use Rattle.std.specs.Prelude.{◌≡◌, Bool, true, cond, ℕ, ◌≤◌, ◌<◌}
use Rattle.gmp_crc8.specs.declared.CheckedWord.{CheckedWord}
use Rattle.gmp_crc8.specs.declared.CheckedWord.TheVariants.{Whole, Mended, Bad}
use Rattle.gmp_crc8.specs.Division.{divide}
use Rattle.gmp_crc8.specs.Check.{passes, syndrome, word, wrong_bits}
use Rattle.gmp_crc8.specs.Checked.{read_word, one_bit, checked_word}

-- how many wrong bits the check is trusted with: "two wrong bits a frame, no longer three", where
-- mending is on
abbrev pub budget : Bool → ℕ
budget mending = cond mending 2 3

-- three bytes
abbrev pub Bytes : ℕ → ℕ → ℕ → Type 0
Bytes x y z = (x < 256) × (y < 256) × (z < 256)

-- a reading is this word, whole or mended, or bad
abbrev pub IsOrBad : ℕ → ℕ → CheckedWord → Type 0
IsOrBad a b (Whole w) = w ≡ read_word a b
IsOrBad a b (Mended w) = w ≡ read_word a b
IsOrBad a b Bad = Unit {0}

-- A word that passes, read with at most the budget's wrong bits, reads as itself, whole or mended,
-- or is bad.
abbrev pub ReadsAsItself : Type 0
ReadsAsItself =
    (mending : Bool) (a b c x y z : ℕ) → Bytes a b c → Bytes x y z → passes a b c ≡ true
    → wrong_bits a b c x y z ≤ budget mending → IsOrBad a b (checked_word mending x y z)

-- A word that passes, read with no wrong bit, is whole; with mending on, with one wrong bit it is
-- mended to itself, and with two it is bad.
pub record MendsOneBit : Type 0 where
  pub none : (mending : Bool) (a b c x y z : ℕ) → Bytes a b c → Bytes x y z → passes a b c ≡ true
      → wrong_bits a b c x y z ≡ 0 → checked_word mending x y z ≡ Whole (read_word a b)
  pub one : (a b c x y z : ℕ) → Bytes a b c → Bytes x y z → passes a b c ≡ true
      → wrong_bits a b c x y z ≡ 1 → checked_word true x y z ≡ Mended (read_word a b)
  pub two : (a b c x y z : ℕ) → Bytes a b c → Bytes x y z → passes a b c ≡ true
      → wrong_bits a b c x y z ≡ 2 → checked_word true x y z ≡ Bad

-- The syndrome of three bytes is the remainder of their 24 bits as read, by long division, and the
-- word passes if and only if it is zero (clause 17.7.1: "In the absence of bit errors, the
-- remainder shall be 0000 0000").
pub record SyndromeDivides : Type 0 where
  pub divided : (x y z : ℕ) → Bytes x y z → syndrome x y z ≡ divide 0 (word x y z)
  pub zero_passes : (x y z : ℕ) → Bytes x y z → syndrome x y z ≡ 0 → passes x y z ≡ true
  pub passes_zero : (x y z : ℕ) → Bytes x y z → passes x y z ≡ true → syndrome x y z ≡ 0

-- No two of the 24 bits have one remainder, and none has that of a word that passes.
pub record BitsToldApart : Type 0 where
  pub distinct : (i j : ℕ) → i < 24 → j < 24 → one_bit i ≡ one_bit j → i ≡ j
  pub not_zero : (i : ℕ) → i < 24 → one_bit i ≡ 0 → ⊥
