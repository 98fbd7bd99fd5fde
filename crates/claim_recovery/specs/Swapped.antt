-- What the type check is for (02, P4): "A swapped patch cord gave us a port delivering another
-- client's bytes." Of any calls of a new sink none with the type check on hands out a byte but
-- where the last type that three frames numbered 0 running had is the expected one. Assumes
-- nothing.
use Rattle.std.specs.Prelude.{◌≡◌, ◌⊎◌, Bool, true, cond, ◌&&◌, List, [], ◌∷◌, ℕ, ◌-◌, take}
use Rattle.gmp_frame.specs.Frame.{psi_of}
use Rattle.std.specs.Prelude.{Some}
use Rattle.gmp_payload_type.specs.Types.{numbered_zero}
use Rattle.gmp_payload_type.specs.Claims.{last_three}
use Rattle.gmp_sink.specs.Sink.{new_sink}
use Rattle.claim_recovery.specs.Runs.{Nth, SinkCall, SinkStep, sink_steps}
use Rattle.claim_recovery.specs.Demand.{Hands}

-- whether a call judges a PSI byte, and that byte
abbrev pub judges : SinkStep → Bool
judges y = y.call.settings.type_check && numbered_zero y.call.expected

abbrev pub psi_read : SinkStep → ℕ
psi_read y = psi_of y.call.settings.k y.call.frame

-- the types that these accepted calls judged, on top of some, the last one first
abbrev pub types_read : List ℕ → List SinkStep → List ℕ
types_read ks [] = ks
types_read ks (y ∷ ys) = types_read (cond (judges y) (psi_read y ∷ ks) ks) ys

-- For every list of calls of a new sink, with any frames, numbers and settings: an accepted call
-- with the type check on hands out nothing, or the last type that three frames numbered 0 running
-- had, as the sink took them with the type check on before it, is the one that it expects.
abbrev pub OnlyExpectedType : Type 0
OnlyExpectedType =
    (calls : List SinkCall) (j : ℕ) (y : SinkStep) → Nth (sink_steps new_sink calls) j y → y.call.settings.type_check ≡ true
    → Hands [] y ⊎ (last_three (types_read [] (take (j - 1) (sink_steps new_sink calls))) ≡ Some y.call.expected.payload_type)
