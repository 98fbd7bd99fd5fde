-- `card_tally::card_total` meets its contract: at each turn the sum is that over the ports so far.
-- Assumes nothing.
use mathlib.Core.Path.{◌≡◌, refl}
use native.Mathlib.Omega.{arith}
use Rattle.card_tally.proofs.Ports.{sums_none, sums_next, sums_total}
use Rattle.card_tally.proofs.card_total.Goals as goal

pub loop-tally-init : goal.loop-tally-init
loop-tally-init c =
    let y = c.args.tallies in
    record {
      frames = sums_none (λ t. t.frames) y _ (omega arith);
      badcheck = sums_none (λ t. t.badcheck) y _ (omega arith);
      bytes = sums_none (λ t. t.bytes) y _ (omega arith);
    }

pub loop-tally-preserved : goal.loop-tally-preserved
loop-tally-preserved c =
    let y = c.args.tallies in
    let i = c.loop-tally.tally-index in
    let v = c.loop-tally.invariant in
    let below = c.loop-tally-test.true in
    record {
      frames = sums_next (λ t. t.frames) y i _ _ v.frames below refl (omega arith);
      badcheck = sums_next (λ t. t.badcheck) y i _ _ v.badcheck below refl (omega arith);
      bytes = sums_next (λ t. t.bytes) y i _ _ v.bytes below refl (omega arith);
    }

pub returns : goal.returns
returns c =
    let l = c.loop-tally in
    let v = l.invariant in
    let all : l.tally-index ≡ 8 = omega arith in
    sums_total c.args.tallies l.tally-index l.sum all v.frames v.badcheck v.bytes
