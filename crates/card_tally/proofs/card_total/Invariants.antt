-- `card_tally::card_total` meets its contract: at each turn the sum is that over the ports so far.
-- Assumes nothing.
use Rattle.card_tally.proofs.Ports.{Sums}
use Rattle.card_tally.proofs.card_total.Given as goal

abbrev pub invariant-loop-tally : goal.invariant-loop-tally
invariant-loop-tally l =
    record {
      frames : Sums (λ t. t.frames) l.fn.tallies l.tally-index l.sum.frames;
      badcheck : Sums (λ t. t.badcheck) l.fn.tallies l.tally-index l.sum.badcheck;
      bytes : Sums (λ t. t.bytes) l.fn.tallies l.tally-index l.sum.bytes;
    }
