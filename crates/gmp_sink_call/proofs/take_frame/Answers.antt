-- `gmp_sink_call::take_frame` meets its contract. Assumes nothing.
use mathlib.Core.Path.{◌∙◌, sym, ap}
use lib.ListN.{length}
use Rattle.refusals.specs.Table.{refused}
use Rattle.gmp_refusal.specs.Refusal.{verdict_number}
use Rattle.gmp_refusal.proofs.Laws.{refused_has_number}
use Rattle.gmp_sink.proofs.Laws.{accepted_knows, answer_refused, state_refused, mended_refused, handed_refused, out_refused}
use Rattle.gmp_sink_call.proofs.Laws.{promise_accepted}
use Rattle.gmp_sink_call.proofs.take_frame.Goals as goal

pub take_accepted-requires : goal.take_accepted-requires
take_accepted-requires c =
    let g = c.args in
    accepted_knows g.settings (length g.frame.now) (length g.out.now) g.port
    (sym c.judge_call.ensures ∙ ap verdict_number c.in_default.is)

pub returns : goal.returns
returns c =
    let g = c.args in
    let none = sym c.judge_call.ensures ∙ ap verdict_number c.in_default.is in
    promise_accepted g.settings g.state g.expected g.frame.now g.out.now g.port _ _ none c.take_accepted.ensures

pub returns-in-Err : goal.returns-in-Err
returns-in-Err c =
    let g = c.args in
    let not_zero = refused_has_number _ _ _ c.judge_call.ensures c.in-Err.is in
    let e = sym c.judge_call.ensures ∙ ap verdict_number c.in-Err.is in
    record {
      answer = ap refused (sym e) ∙ sym (answer_refused g.settings g.state g.frame.now g.out.now g.port not_zero);
      state = sym (state_refused g.settings g.state g.frame.now g.expected g.out.now g.port not_zero);
      handed_bytes = sym (ap length (handed_refused g.settings g.state g.frame.now g.expected g.out.now g.port not_zero));
      mended = sym (mended_refused g.settings g.state g.frame.now g.out.now g.port not_zero);
      out_buffer = sym (out_refused g.settings g.state g.frame.now g.expected g.out.now g.port not_zero);
    }
