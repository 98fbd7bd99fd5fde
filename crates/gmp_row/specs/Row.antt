-- The rows whose numbers are told, and the numbers. A row has k payload bytes, the frame has c
-- client bytes, and r is the row, from 0. Parts of a byte are 2^40 to each. Assumes nothing.
use Rattle.std.specs.Prelude.{◌≡◌, ℕ, ◌+◌, ◌-◌, ◌*◌, ◌/◌, ◌%◌, ◌≤◌, ◌<◌}
use Rattle.gmp_row.specs.declared.RowRuns.{RowRuns}
use Rattle.gmp_row.specs.declared.RowSingles.{RowSingles}

-- one of four rows below 2^17 bytes that leave room for stuffing
abbrev pub Told : ℕ → ℕ → ℕ → Type 0
Told k c r = (c < 4 * k) × (r < 4) × (k < 131072)

-- The stuffing bytes of row r, of which the frame has 4 * k - c. A block, from 16 to 32 bytes wide,
-- holds any run and has room as long as the next stuffing byte stands below stop.
pub record RunsOf (k c r : ℕ) (row : RowRuns) : Type 0 where
  pub before : row.before ≡ (r * (4 * k - c) + 3) / 4
  pub parts : row.parts ≡ (4 * row.before - r * (4 * k - c)) * (k * 1099511627776 / (4 * k - c) + 1)
  pub hop : row.hop ≡ 4 * (k * 1099511627776 / (4 * k - c) + 1)
  pub least : 16 ≤ row.width
  pub most : row.width ≤ 32
  pub blocks : (x : ℕ) → x < row.stop → (c ≤ row.width * (4 * k - c)) × (2 * (x / 1099511627776) + 3 * row.width < 2 * k)

-- the client bytes of row r, of which the frame has at least one
pub record SinglesOf (k c r : ℕ) (row : RowSingles) : Type 0 where
  pub first : row.first ≡ r * c / 4
  pub end : row.end ≡ (r * c + c) / 4
  pub parts : row.parts + 1 ≡ (4 - r * c % 4) * (k * 1099511627776 / c)
  pub hop : row.hop ≡ 4 * (k * 1099511627776 / c)
