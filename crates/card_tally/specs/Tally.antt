-- The tally of a port (01, "Sink"): ".. frames taken, BADCHECK frames, bytes handed out, 32 bits
-- each, staying at the largest number." 01's "One tally for the whole card" is replaced by 02, P2:
-- "The tally becomes eight" (Ports.antt). Assumes nothing.
use Rattle.std.specs.Prelude.{cond, ℕ, ◌+◌, ◌≤◌, leb}
use Rattle.card_tally.specs.declared.Tally.{Tally}

-- the largest number of 32 bits
abbrev pub largest : ℕ
largest = 4294967295

-- a sum that stays at the largest number
abbrev pub cut : ℕ → ℕ
cut n = cond (leb n largest) n largest

-- the tally after so many frames, BADCHECK frames and bytes more
unfoldable pub added : Tally → ℕ → ℕ → ℕ → Tally
added y frames badcheck bytes = record { frames = cut (y.frames + frames); badcheck = cut (y.badcheck + badcheck); bytes = cut (y.bytes + bytes) }

-- "32 bits each"
pub record Of32Bits (y : Tally) : Type 0 where
  pub frames : y.frames ≤ largest
  pub badcheck : y.badcheck ≤ largest
  pub bytes : y.bytes ≤ largest
