-- `card_promise::mended_is_good` meets its contract. Assumes nothing.
use mathlib.Core.Path.{◌≡◌, ap, ◌∙◌}
use mathlib.Core.Bool.{Bool, true, cond}
use mathlib.Core.List.{List}
use Prim.Native.Nat.{ℕ}
use lib.ListN.{length}
use Rattle.refusals.specs.Table.{Answer, accepted}
use Rattle.gmp_settings.specs.declared.Settings.{Settings}
use Rattle.gmp_standing.specs.Standing.{Finding}
use Rattle.card_tally.specs.declared.Tallies.{Tallies}
use Rattle.card_tally.specs.Ports.{counted}
use Rattle.gmp_payload_type.specs.declared.Expected.{Expected}
use Rattle.gmp_sink.specs.declared.SinkState.{SinkState}
use Rattle.gmp_sink.specs.Sink.{sink_answer, sink_mended, sink_handed}
use Rattle.gmp_sink.proofs.Laws.{mended_answers}
use Rattle.card_promise.specs.Card.{bad_frames, tallies_by, tallies_after}
use Rattle.card_promise.proofs.mended_is_good.Goals as goal

module _ (s : Settings) (z : SinkState) (frame out : List ℕ) (port : ℕ) (m : sink_mended s frame out port ≡ true) where
  answers : (f : Finding) × (sink_answer s z frame out port ≡ accepted f) × (bad_frames f ≡ 0)
  answers = let a = mended_answers s z frame out port m in (a.0, a.1, ap (λ (b : Bool). cond b 1 0) a.2)

  tallied : (e : Expected) (y : Tallies) → tallies_after s z e frame out port y ≡ counted y port 1 0 (length (sink_handed s z e frame out port))
  unfolding tallies_after
  tallied e y =
      let n : ℕ = length (sink_handed s z e frame out port) in
      ap (λ (a : Answer Finding). tallies_by a port n y) answers.1 ∙ ap (λ (badcheck : ℕ). counted y port 1 badcheck n) answers.2

pub returns : goal.returns
returns c = record { standing = answers; tallies = λ s z e frame out port y m. tallied s z frame out port m e y }
