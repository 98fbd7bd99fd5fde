-- The inversion patterns (01, "Control word", the table of changes; 02, P11, where the settings
-- carry others). Every definition below takes the table of patterns as a parameter, and the laws
-- ask only that it keeps the rule. Assumes nothing.
use Rattle.std.specs.Prelude.{◌≡◌, List, [], ◌∷◌, ℕ, ◌<◌, get_or}
use Rattle.std.specs.Int.Bits.{bit_xor}
use Rattle.gmp_settings.specs.declared.Settings.{Settings}
use Rattle.gmp_settings.specs.declared.Patterns.{Patterns}
use Rattle.gmp_settings.specs.declared.Patterns.TheVariants.{Standard, Given}
use Rattle.gmp_control.specs.Word.{modulus}

-- four patterns of 14 bits, C1 to C14, for the changes +1, −1, +2, −2 in this order: those of a
-- sign are at the sign and two further
abbrev pub Table : Type 0
Table = List ℕ

-- the paper's patterns (clause 17.7.1, Table 17-4), where the settings carry no others
abbrev pub standard : Table
standard = 0b10101010101010 ∷ 0b01010101010101 ∷ 0b01100110011001 ∷ 0b10011001100110 ∷ []

-- the table of the patterns that settings carry
abbrev pub table_by : Patterns → Table
table_by Standard = standard
table_by (Given p) = p.plus1 ∷ p.minus1 ∷ p.plus2 ∷ p.minus2 ∷ []

-- the table of the settings: four given patterns "take the place of document 01's, in demand 2 too"
unfoldable pub table_of : Settings → Table
table_of s = table_by s.patterns

abbrev pub pattern_at : Table → ℕ → ℕ
pattern_at t k = get_or t k 0

-- the same changes, modulo 16,384
abbrev pub change_at : ℕ → ℕ
change_at k = get_or (1 ∷ 16383 ∷ 2 ∷ 16382 ∷ []) k 0

-- The rule of a table: the two patterns of a sign differ in the same bits for both signs,
abbrev pub Same : Table → Type 0
Same t = bit_xor (pattern_at t 0) (pattern_at t 2) ≡ bit_xor (pattern_at t 1) (pattern_at t 3)

-- and in some bit;
abbrev pub Differ : Table → Type 0
Differ t = bit_xor (pattern_at t 0) (pattern_at t 2) ≡ 0 → ⊥

-- and all have 14 bits.
abbrev pub Short : Table → Type 0
Short t = (k : ℕ) → pattern_at t k < modulus

pub record Rule (t : Table) : Type 0 where
  pub same : Same t
  pub differ : Differ t
  pub short : Short t
