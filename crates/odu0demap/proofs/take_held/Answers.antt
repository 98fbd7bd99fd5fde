-- `odu0demap::take_held` meets its contract. Assumes nothing.
use native.Mathlib.Omega.{arith}
use Rattle.odu0demap.proofs.Going.{goes_held}
use Rattle.odu0demap.proofs.take_held.Goals as goal

pub returns-in-Ok : goal.returns-in-Ok
returns-in-Ok c =
    let g = c.args in
    let k = c.demap_run-run in
    goes_held g.wanted g.demapper g.held g.frames.now k.result k.new.out c.requires.1 k.ensures _ (omega arith)
