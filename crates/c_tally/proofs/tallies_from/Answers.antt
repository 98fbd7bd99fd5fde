-- `c_tally::tallies_from` meets its contract. Assumes nothing.
use mathlib.Core.Path.{ap}
use mathlib.Core.List.{List}
use native.Mathlib.Omega.{arith}
use lib.ListN.{length-set}
use Rattle.card_tally.specs.declared.Tally.{Tally}
use Rattle.card_tally.specs.declared.Tallies.{Tallies}
use Rattle.c_tally.proofs.Listed.{tallies_more, tallies_all}
use Rattle.c_tally.proofs.tallies_from.Goals as goal

pub loop-place-preserved : goal.loop-place-preserved
loop-place-preserved c =
    let l = c.loop-place in
    let v = l.invariant in
    record {
      eight = simp length-set v.eight;
      so_far = tallies_more c.args.numbers l.tally-items l.place _ (omega arith) c.tally_at.ensures v.so_far;
    }

pub returns : goal.returns
returns c =
    let l = c.loop-place in
    ap {B = Tallies} (λ (ys : List Tally). record { ports = ys }) (tallies_all c.args.numbers l.tally-items l.place l.invariant.eight (omega arith) l.invariant.so_far)
