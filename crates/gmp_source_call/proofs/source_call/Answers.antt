-- `gmp_source_call::source_call` meets its contract: the frame is written where the call is
-- accepted, and nothing is where it is not. Assumes nothing.
use mathlib.Core.Path.{◌≡◌, ◌∙◌, sym, ap}
use lib.ListN.{length}
use Rattle.gmp_refusal.specs.Refusal.{verdict_number}
use Rattle.gmp_refusal.proofs.Laws.{refused_has_number}
use Rattle.gmp_frame.specs.declared.Control.{Control}
use Rattle.gmp_frame.specs.Frame.{frame}
use Rattle.gmp_frame.proofs.Laws.{written_fits}
use Rattle.gmp_source.specs.Source.{control_bytes, source_refusal, written}
use Rattle.gmp_source.proofs.Laws.{accepted_knows, client_fits, state_accepted, frame_accepted, state_refused, frame_refused}
use Rattle.gmp_source_call.proofs.source_call.Goals as goal

pub returns-in-Err : goal.returns-in-Err
returns-in-Err c =
    let g = c.args in
    let not_zero = refused_has_number _ _ _ c.judge_call.ensures c.in-Err.is in
    record {
      refusal = sym (ap verdict_number c.in-Err.is) ∙ c.judge_call.ensures;
      state = sym (state_refused g.settings g.state g.next g.client.now g.buffer.now not_zero);
      frame_buffer = sym (frame_refused g.settings g.state g.next g.client.now g.buffer.now not_zero);
    }

pub returns : goal.returns
unfolding written
returns c =
    let g = c.args in
    let zero : source_refusal g.settings g.state g.next (length g.client.now) (length g.buffer.now) ≡ 0 =
    sym c.judge_call.ensures ∙ ap verdict_number c.in_default.is in
    let a = accepted_knows g.settings g.state g.next (length g.client.now) (length g.buffer.now) zero in
    record {
      refusal = sym zero;
      state = sym (state_accepted g.settings g.state g.next g.client.now g.buffer.now zero);
      frame_buffer =
          c.write_frame.ensures
          ∙ written_fits g.settings.k g.client.now c.control_bytes-control.result c.psi_byte.result g.buffer.now a.buffer
          (client_fits g.settings g.state g.next (length g.client.now) (length g.buffer.now) a)
          ∙ ap (λ (x : Control). frame g.settings.k g.client.now x c.psi_byte.result) c.control_bytes-control.ensures
          ∙ ap (frame g.settings.k g.client.now (control_bytes g.settings g.state.count g.next)) c.psi_byte.ensures
          ∙ sym (frame_accepted g.settings g.state g.next g.client.now g.buffer.now zero);
    }
