-- `gmp_sink_call::hand_out` meets its contract. Assumes nothing.
use mathlib.Core.Path.{◌∙◌, sym}
use Rattle.gmp_sink.proofs.Laws.{handed_none}
use Rattle.gmp_sink_call.proofs.Laws.{hands_out}
use Rattle.gmp_sink_call.proofs.hand_out.Goals as goal

pub returns-in_default : goal.returns-in_default
returns-in_default c =
    let g = c.args in
    let h = handed_none g.settings g.state g.frame.now (sym c.known_count-known.ensures ∙ c.in_default.is) in
    record { length_is = rw h; buffer = rw h }

pub returns : goal.returns
returns c =
    let g = c.args in
    hands_out g.settings g.state g.frame.now g.out.now _ _ c.requires (sym c.known_count-known.ensures ∙ c.in-Known.is) c.take_client.ensures
