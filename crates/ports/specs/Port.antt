-- The ports of the card (02, P2): "Eight ports share one card", "ports numbered 1 to 8". Assumes
-- nothing.
use Rattle.std.specs.Prelude.{Bool, ◌||◌, ℕ, eqb, ltb}

-- how many ports the card has
abbrev pub ports : ℕ
ports = 8

-- Number 10: "a port that is 0 or above 8".
abbrev pub bad_port : ℕ → Bool
bad_port p = eqb p 0 || ltb ports p
