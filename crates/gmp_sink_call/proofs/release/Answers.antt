-- `gmp_sink_call::release` meets its contract: by the gate. Assumes nothing.
use mathlib.Core.Path.{◌∙◌, sym}
use Rattle.gmp_sink.proofs.Laws.{released_open, released_shut}
use Rattle.gmp_sink_call.proofs.Laws.{hands_same}
use Rattle.gmp_sink_call.proofs.release.Goals as goal

pub returns-then-is_open : goal.returns-then-is_open
returns-then-is_open c =
    let g = c.args in
    let gate = sym c.gate_open-is_open.ensures ∙ c.if-is_open.true in
    hands_same (released_open g.settings g.state g.frame.now g.expected gate) c.hand_out.ensures

pub returns : goal.returns
returns c =
    let g = c.args in
    let gate = sym c.gate_open-is_open.ensures ∙ c.if-is_open.false in
    let none = released_shut g.settings g.state g.frame.now g.expected gate in
    record { length_is = rw none; buffer = rw none }
