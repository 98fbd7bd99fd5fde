-- Functions that are linear over exclusive-or. Assumes nothing.
use Rattle.std.specs.Prelude.{◌≡◌, ℕ, ◌<◌}
use Rattle.std.specs.Int.Bits.{bit_xor}

-- f is linear on the numbers below n: what it makes of an exclusive-or is the exclusive-or of what
-- it makes of both
pub record Linear (n : ℕ) (f : ℕ → ℕ) : Type 0 where
  pub of_xor : (a b : ℕ) → a < n → b < n → f (bit_xor a b) ≡ bit_xor (f a) (f b)
