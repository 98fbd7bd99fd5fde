-- How evenly the client bytes lie (02, P9). C is the count, S the number of payload bytes, which
-- are numbered from 1. Assumes nothing.
use Rattle.std.specs.Prelude.{◌≡◌, cond, ℕ, zero, suc, ◌+◌, ◌*◌, ◌/◌, ◌≤◌, ◌<◌}
use Rattle.gmp_settings.specs.Grid.{payload_bytes}
use Rattle.gmp_places.specs.Places.{carries, places}

-- how many of the payload bytes a + 1 to a + L, a "run of L successive payload bytes", carry a
-- client byte
unfoldable pub places_in : ℕ → ℕ → ℕ → ℕ → ℕ
places_in C S a zero = 0
places_in C S a (suc L) = places_in C S a L + cond (carries C S (a + suc L)) 1 0

-- Of the run of payload bytes a + 1 to a + L: "the client bytes differ from L × C / S by less than
-- one, in whole numbers: the difference of S × their number and L × C is less than S on either
-- side"
pub record Even (C S a L : ℕ) : Type 0 where
  pub above : S * places_in C S a L < L * C + S
  pub below : L * C < S * places_in C S a L + S
  -- so they are the whole part of L × C / S, or one more
  pub least : L * C / S ≤ places_in C S a L
  pub most : places_in C S a L ≤ L * C / S + 1
  -- they are those among the first a + L without those among the first a
  pub difference : places_in C S a L + places C S a ≡ places C S (a + L)

-- "It must hold for every grid, count and run, the empty run included": a run of one frame begins
-- anywhere and ends with payload byte S at the latest. No smaller figure holds, on any grid: with
-- one stuffing byte the run of byte 1 alone is S − 1 below L × C, with one client byte the run of
-- byte S alone is S − 1 above it.
pub record BytesLieEvenly : Type 0 where
  pub every_run : (K C a L : ℕ) → 0 < K → C ≤ payload_bytes K → a + L ≤ payload_bytes K → Even C (payload_bytes K) a L
  pub sharp_below : (K C : ℕ) → C + 1 ≡ payload_bytes K → payload_bytes K * places_in C (payload_bytes K) 0 1 + C ≡ 1 * C
  pub sharp_above : (K a : ℕ) → a + 1 ≡ payload_bytes K → payload_bytes K * places_in 1 (payload_bytes K) a 1 ≡ 1 * 1 + a
  -- on the grid K = 2
  pub eight_below : 8 * places_in 7 8 0 1 + 7 ≡ 1 * 7
  pub eight_above : 8 * places_in 1 8 7 1 ≡ 1 * 1 + 7
