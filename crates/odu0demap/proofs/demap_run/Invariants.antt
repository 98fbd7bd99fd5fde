-- `odu0demap::demap_run` meets its contract. Assumes nothing.
use Rattle.odu0demap.proofs.Going.{Running}
use Rattle.odu0demap.proofs.demap_run.Given as goal

abbrev pub invariant-loop-number : goal.invariant-loop-number
invariant-loop-number l = Running l.wanted l.initial.demapper l.frames l.demapper l.number l.handed l.out
