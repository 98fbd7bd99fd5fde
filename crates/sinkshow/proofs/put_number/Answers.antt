-- `sinkshow::put_number` meets its contract. Assumes nothing.
use mathlib.Core.Path.{◌≡◌, ◌∙◌}
use native.Mathlib.Omega.{arith}
use lib.ListN.{take}
use Rattle.sinkshow.specs.Lines.{decimal}
use Rattle.sinkshow.proofs.Laws.{decimal_is}
use Rattle.sinkshow.proofs.put_number.Goals as goal

pub returns : goal.returns
returns c =
    let d = c.decimal-k in
    let n = c.args.n in
    let e : take d.result d.new.out ≡ decimal n = d.ensures.digits ∙ decimal_is n d.result (omega arith) d.ensures.len in
    rw e at c.put.ensures
