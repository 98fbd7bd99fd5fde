-- `program_map::make_frame` meets its contract. Assumes nothing.
use Rattle.program_map.proofs.Laws.{never_refused, makes}
use Rattle.program_map.proofs.make_frame.Goals as goal

pub returns-in_default : goal.returns-in_default
returns-in_default c ready full size =
    let start = c in
    let g = start.args in
    let same = c.opu0.ensures in
    let k = c.next_count-kept in
    absurd
    (never_refused g.rate _ same g.mapper.remainder k.result k.ensures _ ready.keeper c.in_default.is)

pub returns : goal.returns
returns c ready full size =
    let start = c in
    let g = start.args in
    let same = c.opu0.ensures in
    let k = c.next_count-kept in
    let next = c.in-Ok.is in
    let same' = c.opu0-2.ensures in
    let x = c.source_call-result in
    makes g.rate g.mapper ready g.load.now g.frame.now full size
    _ same k.result k.ensures _ next _ same' x.result _ x.ensures
