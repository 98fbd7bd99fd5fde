-- Worked words of tables that settings may carry (02, P11). Those of 01 are starred, and stand in
-- the crate claim_worked; one of them stands here too. Assumes nothing.
use Rattle.std.specs.Prelude.{◌≡◌, refl, false, ℕ}
use Rattle.gmp_settings.specs.declared.Settings.{Settings}
use Rattle.gmp_settings.specs.declared.Patterns.TheVariants.{Given}
use Rattle.gmp_settings.specs.Settings.{new_settings, with_patterns, opu0, outside}
use Rattle.gmp_settings.specs.Patterns.{bad_four}
use Rattle.gmp_settings.specs.Worked.{four, one_bit_wrong}
use Rattle.gmp_standing.specs.declared.Count.TheVariants.{Known, Unknown}
use Rattle.gmp_standing.specs.Standing.{finding, TRACKED, PAIRED, WAITING, OUTSIDE}
use Rattle.gmp_standing.specs.Known.{in_window}
use Rattle.gmp_crc8.specs.declared.WordBytes.{WordBytes}
use Rattle.std.specs.Prelude.{Some, None}
use Rattle.gmp_control.specs.Word.{count_bits, equal_indicators, word_bytes, word_by}
use Rattle.gmp_control.specs.Pattern.{Table, standard, table_by, table_of, pattern_at}
use Rattle.gmp_control.specs.Announce.{announced}
use Rattle.gmp_control.specs.Follow.{usable, tracked, candidate, paired, reached, found_by, found}

abbrev bytes : ℕ → ℕ → WordBytes
bytes a b = record { jc1 = a; jc2 = b }

-- the window 0 to 15232 on OPU0's grid
abbrev pub wide : Settings
wide = new_settings 3808 0 15232

-- "Window 0 to 15232, known count 2932 (false), no word: 4B B6 38 is TRACKED to 2934; then 4B 8A 19
-- is PAIRED, 14409." Of the starred cases this one stands here too: it is what goes wrong at a sink
-- that forgets the remembered word while a count is known (the edit word_forgotten_in_step).
pub false_count_lem :
    (found wide (Known 2932) None (word_by 0x4B 0xB6) ≡ finding TRACKED (Known 2934))
    × (found wide (Known 2934) (Some (word_by 0x4B 0xB6)) (word_by 0x4B 0x8A) ≡ finding PAIRED (Known 14409))
unfolding found_by in_window usable tracked candidate paired reached equal_indicators table_of outside
false_count_lem = (refl, refl)

-- Zero patterns, and a plus pattern that is a minus pattern: the table 0, 0, 1, 1 keeps the rule,
-- since its exclusive-ors are 1 and 1. The two possible counts of E1 1E 74, which a source writes
-- for 14407 to 14408, are 14408 both, so the next word continues both, and PAIRED is told.
abbrev pub odd : Settings
odd = with_patterns opu0 (four 0 0 1 1)

pub odd_table :
    (word_bytes (announced (table_of odd) 14407 14408) ≡ bytes 0xE1 0x1E)
    × (word_bytes (announced (table_of odd) 14408 14409) ≡ bytes 0xE1 0x22)
    × (candidate (table_of odd) (count_bits (word_by 0xE1 0x1E)) 0 ≡ 14408)
    × (candidate (table_of odd) (count_bits (word_by 0xE1 0x1E)) 2 ≡ 14408)
    × (found odd Unknown None (word_by 0xE1 0x1E) ≡ finding WAITING Unknown)
    × (found odd Unknown (Some (word_by 0xE1 0x1E)) (word_by 0xE1 0x22) ≡ finding PAIRED (Known 14409))
unfolding announced found_by in_window usable tracked candidate paired reached equal_indicators table_of outside
odd_table = (refl, refl, refl, refl, refl, refl)

-- the paper's patterns pass too where they are given
pub standard_given : bad_four (four (pattern_at standard 0) (pattern_at standard 1) (pattern_at standard 2) (pattern_at standard 3)) ≡ false
standard_given = refl

-- A table that breaks the rule in one bit: a source goes 14408, 14410, 14409, and a new sink in the
-- window 0 to 15232 says PAIRED with the false count 4384. OPU0's window turns that down.
abbrev broken : Table
broken = table_by (Given one_bit_wrong)

pub one_bit_wrong_lem :
    (word_bytes (announced broken 14408 14410) ≡ bytes 0xB4 0x76)
    × (word_bytes (announced broken 14410 14409) ≡ bytes 0xEE 0x25)
    × (found_by broken wide Unknown None (word_by 0xB4 0x76) ≡ finding WAITING Unknown)
    × (found_by broken wide Unknown (Some (word_by 0xB4 0x76)) (word_by 0xEE 0x25) ≡ finding PAIRED (Known 4384))
    × (found_by broken opu0 Unknown (Some (word_by 0xB4 0x76)) (word_by 0xEE 0x25) ≡ finding OUTSIDE Unknown)
unfolding announced found_by in_window usable tracked candidate paired reached equal_indicators outside
one_bit_wrong_lem = (refl, refl, refl, refl, refl)
