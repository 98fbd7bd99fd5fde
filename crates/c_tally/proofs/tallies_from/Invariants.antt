-- `c_tally::tallies_from` meets its contract: the tallies so far are those of the numbers.
-- Assumes nothing.
use Rattle.std.proofs.Common.{◌≡◌, take, length}
use Rattle.c_sink_numbers.specs.Numbers.{tallies_in}
use Rattle.c_tally.proofs.tallies_from.Given as goal

abbrev pub invariant-loop-place : goal.invariant-loop-place
invariant-loop-place l = record { eight : length l.tally-items ≡ 8; so_far : take l.place l.tally-items ≡ tallies_in l.place l.numbers }
