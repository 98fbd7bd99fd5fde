-- The card's tallies over the calls of all its sinks (01, "Sink", of one tally, in whose place 02,
-- P2 puts eight): ".. is changed where the caller keeps it .. Only accepted sink calls change it";
-- and P2: "A call changes only its own port's three numbers. The card's total is their sum".
-- Assumes nothing.
use Rattle.std.specs.Prelude.{◌≡◌, Bool, cond, ◌&&◌, List, [], ◌∷◌, ℕ, ◌+◌, eqb, length}
use Rattle.refusals.specs.Table.{Answer, accepted, refused}
use Rattle.gmp_standing.specs.Standing.{Finding}
use Rattle.card_tally.specs.declared.Tally.{Tally}
use Rattle.card_tally.specs.declared.Tallies.{Tallies}
use Rattle.card_tally.specs.Tally.{added}
use Rattle.card_tally.specs.Ports.{tally_of, total_by, total_of, OfCard}
use Rattle.card_promise.specs.Card.{bad_frames, tallies_after}
use Rattle.claim_recovery.specs.Runs.{SinkStep, sink_takes, answer_of, handed_of}

-- The tallies after these calls, from the tallies y. They are calls of any number of sinks on any
-- ports, in the order in which they were made, each with the state that it was given.
unfoldable pub tallies_end : Tallies → List SinkStep → Tallies
tallies_end y [] = y
tallies_end y (x ∷ xs) = tallies_end (tallies_after x.call.settings x.state x.call.expected x.call.frame x.call.out x.call.port y) xs

-- whether a call was accepted and named port p, and those among them
abbrev pub counts_on : ℕ → SinkStep → Bool
counts_on p x = sink_takes x && eqb x.call.port p

unfoldable pub taken_on : ℕ → List SinkStep → List SinkStep
taken_on p [] = []
taken_on p (x ∷ xs) = cond (counts_on p x) (x ∷ taken_on p xs) (taken_on p xs)

-- the BADCHECK frames among accepted calls
abbrev pub bad_in : Answer Finding → ℕ
bad_in (accepted f) = bad_frames f
bad_in (refused n) = 0

unfoldable pub bad_frames_of : List SinkStep → ℕ
bad_frames_of [] = 0
bad_frames_of (y ∷ ys) = bad_in (answer_of y) + bad_frames_of ys

-- the bytes that they hand out
unfoldable pub bytes_of : List SinkStep → ℕ
bytes_of [] = 0
bytes_of (y ∷ ys) = length (handed_of y) + bytes_of ys

-- a port's tally after these calls: the sum over its own accepted ones, each number staying at the
-- largest
abbrev pub summed : Tallies → List SinkStep → ℕ → Tally
summed y calls p = added (tally_of y p) (length (taken_on p calls)) (bad_frames_of (taken_on p calls)) (bytes_of (taken_on p calls))

-- After any list of sink calls of any sinks on any ports each port's tally is the sum over its own
-- accepted calls; a port that none of them named has its tally as it was; and the card's total is
-- the sum of the eight. Refused calls add nothing.
pub record TallySums : Type 0 where
  pub each_port : (y : Tallies) → OfCard y → (calls : List SinkStep) (p : ℕ) → tally_of (tallies_end y calls) p ≡ summed y calls p
  pub not_named : (y : Tallies) (calls : List SinkStep) (p : ℕ) → taken_on p calls ≡ [] → tally_of (tallies_end y calls) p ≡ tally_of y p
  pub total : (y : Tallies) → OfCard y → (calls : List SinkStep) → total_of (tallies_end y calls) ≡ total_by (summed y calls)
