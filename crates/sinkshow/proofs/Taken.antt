-- A frame of 16 bytes is never refused on these settings, and its line tells what the sink made of
-- it. Assumes nothing.
use mathlib.Core.Path.{◌≡◌, refl, ap, ◌∙◌}
use mathlib.Core.List.{List}
use Prim.Native.Nat.{ℕ, ◌+◌}
use lib.ListN.{length}
use Rattle.gmp_refusal.specs.declared.Refusal.{Refusal}
use Rattle.gmp_standing.specs.declared.Standing.{Standing}
use Rattle.gmp_standing.specs.Standing.{standing_meaning}
use Rattle.gmp_sink.specs.declared.SinkState.{SinkState}
use Rattle.std.specs.Prelude.{Ok, Err}
use Rattle.gmp_payload_type.specs.declared.Expected.{Expected}
use Rattle.gmp_sink.specs.declared.SinkResult.{SinkResult}
use Rattle.gmp_sink.specs.Sink.{sink_refusal, handed, SinkPromise}
use Rattle.gmp_sink.proofs.Laws.{released_off, frame_off, state_accepted, handed_accepted, never_refused, done_says}
use Rattle.sinkshow.specs.declared.Run.{Run}
use Rattle.sinkshow.specs.Lines.{numbers_text, standing_text}
use Rattle.sinkshow.specs.Show.{small, Puts, Shows}
use Rattle.sinkshow.proofs.Laws.{puts_append}

module _ (n : Run) (frame out : List ℕ) (sixteen : length frame ≡ 16) (eight : length out ≡ 8) where
  none_refused : sink_refusal small (length frame) (length out) 1 ≡ 0
  unfolding sink_refusal
  none_refused = rw (sixteen, eight)

  module _ (r : SinkResult) (after : List ℕ) (w : Expected) (p : SinkPromise small n.state w frame out 1 r after) where
    pub not_refused : (x : Refusal) → r.answer ≡ Err x → ⊥
    not_refused = never_refused none_refused p

    pub shown : (standing : Standing) → r.answer ≡ Ok standing → (line mid made : List ℕ) (at m : ℕ)
        → Puts line 0 (numbers_text (n.frames + 1) r.handed) at mid → Puts mid at (standing_text (standing_meaning standing)) m made
        → Shows n frame line (record { length = m; after = record { state = r.state; frames = n.frames + 1 } }) made
    shown standing e line mid made at m a b =
        let h : r.handed ≡ length (handed small n.state frame) = p.handed_bytes ∙ ap length (handed_accepted small n.state frame w out 1 none_refused ∙ released_off small n.state frame w refl) in
        record {
          made = puts_append (rw h at a) (rw (done_says none_refused p standing e) at b);
          next =
              ap (λ (z : SinkState). record { state = z; frames = n.frames + 1 }) (p.state ∙ state_accepted small n.state frame w out 1 none_refused ∙ frame_off small n.state frame w refl);
        }
