-- The tallies of the card's ports (02, P2): "The tally becomes eight, ports numbered 1 to 8".
-- Assumes nothing.
use Rattle.std.specs.Prelude.{◌≡◌, false, cond, ℕ, zero, suc, ◌+◌, ◌-◌, length, get_or, set, replicate}
use Rattle.ports.specs.Port.{ports, bad_port}
use Rattle.card_tally.specs.declared.Tally.{Tally}
use Rattle.card_tally.specs.declared.Tallies.{Tallies}
use Rattle.card_tally.specs.declared.Total.{Total}
use Rattle.card_tally.specs.Tally.{added, Of32Bits}

-- nothing tallied: on a port, and on the whole card
abbrev pub no_tally : Tally
no_tally = record { frames = 0; badcheck = 0; bytes = 0 }

abbrev pub new_tallies : Tallies
new_tallies = record { ports = replicate ports no_tally }

-- the tally of port p, the p-th of the eight; nothing where the card has no such port
abbrev pub tally_of : Tallies → ℕ → Tally
tally_of y p = cond (bad_port p) no_tally (get_or y.ports (p - 1) no_tally)

-- The tallies after so many frames, BADCHECK frames and bytes more of port p. A port that the card
-- does not have changes nothing.
unfoldable pub counted : Tallies → ℕ → ℕ → ℕ → ℕ → Tallies
counted y p frames badcheck bytes = cond (bad_port p) y (record { ports = set y.ports (p - 1) (added (tally_of y p) frames badcheck bytes) })

-- the sum of a number over the first ports, up to port n
unfoldable pub sum_to : ℕ → (ℕ → ℕ) → ℕ
sum_to zero number = 0
sum_to (suc n) number = sum_to n number + number (suc n)

-- "The card's total is their sum, which may exceed 32 bits."
abbrev pub total_by : (ℕ → Tally) → Total
total_by tally =
    record { frames = sum_to ports (λ p. (tally p).frames); badcheck = sum_to ports (λ p. (tally p).badcheck); bytes = sum_to ports (λ p. (tally p).bytes) }

unfoldable pub total_of : Tallies → Total
total_of y = total_by (tally_of y)

-- Tallies as a card has them: eight, each of 32 bits.
pub record OfCard (y : Tallies) : Type 0 where
  pub eight : length y.ports ≡ ports
  pub each : (p : ℕ) → Of32Bits (tally_of y p)

-- what is counted on port p is added to its tally,
abbrev pub Adds : Tallies → ℕ → ℕ → ℕ → ℕ → Type 0
Adds y p frames badcheck bytes = tally_of (counted y p frames badcheck bytes) p ≡ added (tally_of y p) frames badcheck bytes

-- and leaves that of port q
abbrev pub Leaves : ℕ → Tallies → ℕ → ℕ → ℕ → ℕ → Type 0
Leaves q y p frames badcheck bytes = tally_of (counted y p frames badcheck bytes) q ≡ tally_of y q

-- "A call changes only its own port's three numbers": it adds to the tally of its own port, leaves
-- that of every other, and there are as many as before.
pub record OwnPortOnly : Type 0 where
  pub own : (y : Tallies) (p frames badcheck bytes : ℕ) → length y.ports ≡ ports → bad_port p ≡ false → Adds y p frames badcheck bytes
  pub others : (y : Tallies) (p q frames badcheck bytes : ℕ) → (q ≡ p → ⊥) → Leaves q y p frames badcheck bytes
  pub as_many : (y : Tallies) (p frames badcheck bytes : ℕ) → length (counted y p frames badcheck bytes).ports ≡ length y.ports
