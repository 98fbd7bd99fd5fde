-- What the parts of the sink's call come to. Assumes nothing.
use mathlib.Core.Path.{◌≡◌, sym, ap, ◌∙◌, subst⁻¹}
use mathlib.Core.List.{List}
use Prim.Native.Nat.{ℕ, ◌≤◌}
use native.Mathlib.Omega.{arith}
use lib.ListN.{length}
use Rattle.gmp_settings.specs.declared.Settings.{Settings}
use Rattle.gmp_settings.specs.Grid.{payload_bytes}
use Rattle.gmp_standing.specs.declared.Count.TheVariants.{Known}
use Rattle.gmp_standing.specs.Known.{in_window}
use Rattle.gmp_frame.specs.Frame.{client_taken}
use Rattle.gmp_frame.proofs.Laws.{length_client, taken_fits}
use Rattle.gmp_payload_type.specs.declared.Expected.{Expected}
use Rattle.gmp_sink.specs.declared.SinkState.{SinkState}
use Rattle.gmp_sink.specs.declared.SinkResult.{SinkResult}
use Rattle.gmp_sink.specs.Sink.{handed, sink_refusal, SinkPromise}
use Rattle.gmp_sink.proofs.Laws.{Accepted, known_le, handed_known, answer_accepted, state_accepted, handed_accepted, mended_accepted, out_accepted}
use Rattle.gmp_sink_call.specs.Parts.{HandsOut, AcceptedPromise}

-- bytes that are the same are handed out the same
pub hands_same : {these bytes out : List ℕ} {n : ℕ} {after : List ℕ} → these ≡ bytes → HandsOut bytes out n after → HandsOut these out n after
hands_same {these} {bytes} {out} {n} {after} e h = subst⁻¹ (λ (l : List ℕ). HandsOut l out n after) e h

-- what the code of `hand_out` comes to, if a count n is known
pub hands_out : (s : Settings) (z : SinkState) (frame out : List ℕ) (n : ℕ) (after : List ℕ) → Accepted s (length frame) (length out)
    → in_window s z.count ≡ Known n → after ≡ client_taken s.k n frame out → HandsOut (handed s z frame) out n after
hands_out s z frame out n after a known e =
    let le = known_le s z.count n known in
    let fits : n ≤ payload_bytes s.k = omega (arith, a.fit.within) in
    let room : n ≤ length out = omega (arith, a.space) in
    let same = length_client s.k n frame fits a.frame in
    let h = handed_known s z frame n known in
    record {
      length_is = sym (ap length h ∙ same);
      buffer = e ∙ taken_fits s.k n frame out a.frame fits room ∙ sym (rw (h, same));
    }

-- what a call that no number turns back promises is what the sink's call does
pub promise_accepted : (s : Settings) (z : SinkState) (w : Expected) (frame out : List ℕ) (p : ℕ) (r : SinkResult) (after : List ℕ)
    → sink_refusal s (length frame) (length out) p ≡ 0 → AcceptedPromise s z w frame out r after → SinkPromise s z w frame out p r after
promise_accepted s z w frame out p r after none a =
    record {
      answer = a.reads.answer_is ∙ sym (answer_accepted s z frame out p none);
      state = a.reads.state_is ∙ sym (state_accepted s z frame w out p none);
      handed_bytes = a.hands.length_is ∙ sym (ap length (handed_accepted s z frame w out p none));
      mended = a.reads.mended_is ∙ sym (mended_accepted s z frame out p none);
      out_buffer = a.hands.buffer ∙ sym (out_accepted s z frame w out p none);
    }
