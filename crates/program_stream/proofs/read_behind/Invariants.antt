-- `program_stream::read_behind` meets its contract. What was read lies within the block, and grows
-- with each read. Assumes nothing.
use Rattle.std.proofs.Common.{◌≡◌, ◌-◌, length}
use Rattle.program_stream.proofs.Laws.{Reading}
use Rattle.program_stream.proofs.read_behind.Given as goal

abbrev pub invariant-loop-end : goal.invariant-loop-end
invariant-loop-end l = Reading l.initial.block l.have l.block l.end × (l.size ≡ length l.initial.block)

abbrev pub decreases-loop-end : goal.decreases-loop-end
decreases-loop-end l = length l.block - l.end
