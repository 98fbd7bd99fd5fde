-- What the sink makes of a word that was read (01, "Sink", rules 2 and 3). The clause draws
-- the hunting for a count as Figure 17-12. Assumes nothing.
use Rattle.std.specs.Prelude.{◌≡◌, cond, ℕ, ◌+◌, eqb}
use Rattle.std.specs.Int.Bits.{bit_xor}
use Rattle.gmp_settings.specs.declared.Settings.{Settings}
use Rattle.gmp_settings.specs.Settings.{outside}
use Rattle.gmp_standing.specs.declared.Count.{Count}
use Rattle.gmp_standing.specs.declared.Count.TheVariants.{Known, Unknown}
use Rattle.gmp_standing.specs.Standing.{Finding, finding, READ, TRACKED, PAIRED, WAITING, OUTSIDE, standing_meaning}
use Rattle.gmp_standing.specs.Known.{in_window}
use Rattle.std.specs.Prelude.{Option, Some, None}
use Rattle.gmp_control.specs.declared.Followed.{Followed}
use Rattle.gmp_control.specs.Word.{moved, count_bits, equal_indicators, sign}
use Rattle.gmp_control.specs.Pattern.{Table, table_of, pattern_at, change_at}

-- "and so does a remembered word with II = DI."
unfoldable pub usable : Option ℕ → Option ℕ
usable (Some w) = cond (equal_indicators w) None (Some w)
usable None = None

-- "C exclusive-or that count is one of the two patterns of this sign, the count moves by that
-- pattern's change": the count after a word with these count bits and sign, from this count
unfoldable pub tracked : Table → ℕ → ℕ → ℕ → Count
tracked t count bits g =
    cond (eqb (bit_xor bits count) (pattern_at t g)) (Known (moved count (change_at g)))
    (cond (eqb (bit_xor bits count) (pattern_at t (g + 2))) (Known (moved count (change_at (g + 2)))) Unknown)

-- a possible count of a word: "its C bits exclusive-or each pattern of its sign, plus that change"
unfoldable pub candidate : Table → ℕ → ℕ → ℕ
candidate t bits k = moved (bit_xor bits (pattern_at t k)) (change_at k)

abbrev pub or_else : Count → Count → Count
or_else (Known n) m = Known n
or_else Unknown m = m

-- of the two possible counts of the word before, with its count bits and its sign f, "the one which
-- this word continues by a pattern of its sign moves by that change"
unfoldable pub paired : Table → ℕ → ℕ → ℕ → ℕ → Count
paired t before f bits g = or_else (tracked t (candidate t before f) bits g) (tracked t (candidate t before (f + 2)) bits g)

-- the count that a word leads to from the known count, and from the remembered word
abbrev pub from_count : Table → Count → ℕ → Count
from_count t (Known n) w = tracked t n (count_bits w) (sign w)
from_count t Unknown w = Unknown

abbrev pub from_word : Table → Option ℕ → ℕ → Count
from_word t (Some v) w = paired t (count_bits v) (sign v) (count_bits w) (sign w)
from_word t None w = Unknown

-- rule 3: from the known count "TRACKED. Otherwise, if a word was remembered from before, ..
-- PAIRED. Otherwise count none: WAITING."
abbrev pub tracked_else_paired : Count → Count → Finding
tracked_else_paired (Known n) other = finding TRACKED (Known n)
tracked_else_paired Unknown (Known n) = finding PAIRED (Known n)
tracked_else_paired Unknown Unknown = finding WAITING Unknown

-- rule 2, "II = DI: the count is the C bits, word none. READ", or rule 3
unfoldable pub reached : Table → Count → Option ℕ → ℕ → Finding
reached t count before w = cond (equal_indicators w) (finding READ (Known (count_bits w))) (tracked_else_paired (from_count t count w) (from_word t before w))

-- "A count reached in 2 or 3 that is outside the window becomes none: OUTSIDE"
abbrev pub windowed_by : Settings → Finding → Count → Finding
windowed_by s f (Known n) = cond (outside s n) (finding OUTSIDE Unknown) f
windowed_by s f Unknown = f

abbrev pub windowed : Settings → Finding → Finding
windowed s f = windowed_by s f f.count

-- the standing after a word w that was read, from this count and this remembered word, with
-- this table of patterns
unfoldable pub found_by : Table → Settings → Count → Option ℕ → ℕ → Finding
found_by t s count before w = windowed s (reached t (in_window s count) (usable before) w)

-- and with that of the settings
abbrev pub found : Settings → Count → Option ℕ → ℕ → Finding
found s count before w = found_by (table_of s) s count before w

-- What `follow` promises: the standing; the new count is what it found; the word is remembered
-- where II ≠ DI, OUTSIDE or not.
pub record Follows (s : Settings) (count : Count) (before : Option ℕ) (w : ℕ) (r : Followed) : Type 0 where
  pub standing : standing_meaning r.standing ≡ found s count before w
  pub count_is : r.count ≡ (found s count before w).count
  pub word_is : r.word ≡ usable (Some w)
