-- The sink's call with the card's tallies (01, "Sink"): "Only accepted sink calls change it"; and
-- 02, P2: "each sink call names its port. A call changes only its own port's three numbers."
-- Assumes nothing.
use Rattle.std.specs.Prelude.{◌≡◌, true, cond, List, ℕ, length}
use Rattle.math.specs.Choice.{same_list}
use Rattle.gmp_settings.specs.declared.Settings.{Settings}
use Rattle.refusals.specs.Table.{Answer, accepted, refused}
use Rattle.gmp_standing.specs.Standing.{Finding, BADCHECK}
use Rattle.card_tally.specs.declared.Tallies.{Tallies}
use Rattle.card_tally.specs.Ports.{counted}
use Rattle.gmp_payload_type.specs.declared.Expected.{Expected}
use Rattle.gmp_sink.specs.declared.SinkState.{SinkState}
use Rattle.gmp_sink.specs.declared.SinkResult.{SinkResult}
use Rattle.gmp_sink.specs.Sink.{sink_answer, sink_mended, sink_handed, SinkPromise}

-- how many BADCHECK frames a frame with this standing is
abbrev pub bad_frames : Finding → ℕ
bad_frames f = cond (same_list f.name BADCHECK) 1 0

-- the tallies after a call of this port with this answer that handed out so many bytes
abbrev pub tallies_by : Answer Finding → ℕ → ℕ → Tallies → Tallies
tallies_by (accepted f) port bytes y = counted y port 1 (bad_frames f) bytes
tallies_by (refused n) port bytes y = y

unfoldable pub tallies_after : Settings → SinkState → Expected → List ℕ → List ℕ → ℕ → Tallies → Tallies
tallies_after s z e frame out port y = tallies_by (sink_answer s z frame out port) port (length (sink_handed s z e frame out port)) y

-- What a call with the tallies promises: what the sink promises, and the tallies.
pub record CardPromise (s : Settings) (z : SinkState) (e : Expected) (frame out : List ℕ) (port : ℕ) (y : Tallies) (r : SinkResult) (after : List ℕ) (tallies_then : Tallies) : Type 0 where
  pub sink : SinkPromise s z e frame out port r after
  pub tallies : tallies_then ≡ tallies_after s z e frame out port y

-- A call that mended a bit has another standing than BADCHECK, and its port's "frames taken" is one
-- more, but not its "BADCHECK frames" (02, P1).
pub record MendedIsGood : Type 0 where
  pub standing : (s : Settings) (z : SinkState) (frame out : List ℕ) (port : ℕ) → sink_mended s frame out port ≡ true
      → (f : Finding) × (sink_answer s z frame out port ≡ accepted f) × (bad_frames f ≡ 0)
  pub tallies : (s : Settings) (z : SinkState) (e : Expected) (frame out : List ℕ) (port : ℕ) (y : Tallies) → sink_mended s frame out port ≡ true
      → tallies_after s z e frame out port y ≡ counted y port 1 0 (length (sink_handed s z e frame out port))
