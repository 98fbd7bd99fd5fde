-- `sinkshow::put_name` meets its contract. Assumes nothing.
use mathlib.Core.Path.{◌∙◌, ap}
use native.Mathlib.Omega.{arith}
use lib.ListN.{length}
use Rattle.gmp_standing.proofs.Names.{named}
use Rattle.program_name.proofs.Laws.{named_is}
use Rattle.sinkshow.proofs.Laws.{name_within}
use Rattle.sinkshow.proofs.put_name.Goals as goal

pub put-requires : goal.put-requires
put-requires c =
    let start = c in
    let w = named_is _ _ _ _ (named start.args.standing _ c.standing_number-number.ensures) in
    omega (arith, ap length (c.name_of-name.ensures ∙ w), name_within start.args.standing, start.requires)

pub returns : goal.returns
returns c =
    let w = named_is _ _ _ _ (named c.args.standing _ c.standing_number-number.ensures) in
    rw (← (c.name_of-name.ensures ∙ w)) c.put.ensures
