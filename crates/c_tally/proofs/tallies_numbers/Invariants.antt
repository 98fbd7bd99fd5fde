-- `c_tally::tallies_numbers` meets its contract: the numbers so far are those of the ports.
-- Assumes nothing.
use Rattle.std.proofs.Common.{◌≡◌, ◌*◌, take, length}
use Rattle.c_sink_numbers.specs.Numbers.{numbers_of}
use Rattle.c_tally.proofs.tallies_numbers.Given as goal

abbrev pub invariant-loop-place : goal.invariant-loop-place
invariant-loop-place l = record { many : length l.numbers ≡ 24; so_far : take (3 * l.place) l.numbers ≡ numbers_of l.place l.fn.tallies }
