-- `program_name::name_in` meets its contract. Assumes nothing.
use mathlib.Core.Path.{ap, ◌∙◌}
use Prim.Native.Nat.{ℕ}
use lib.ListN.{get_or}
use mathlib.Core.Logic.{⊎_elim}
use native.Mathlib.Omega.{arith}
use Rattle.program_name.proofs.Laws.{no_name, part_is}
use Rattle.program_name.proofs.name_in.Goals as goal

pub returns-in_err-place : goal.returns-in_err-place
returns-in_err-place c = rw c.from_residual.ensures (no_name _ _ _ (λ one last within. absurd (c.in_err-place.ensures one)))

pub returns-in_err-length : goal.returns-in_err-length
returns-in_err-length c = rw c.from_residual-in_err-length.ensures (no_name _ _ _ (λ one last within. omega (arith, one, last, c.in_err-length.ensures)))

pub returns-in_err-get : goal.returns-in_err-get
returns-in_err-get c = rw c.from_residual-in_err-get.ensures (no_name _ _ _ (λ one last within. ⊎_elim (λ e. omega (arith, one, last, within, e)) (λ e. omega (arith, one, last, e)) c.in_err-get.ensures.lookup.0))

pub returns : goal.returns
returns c =
    let rest = c.in_ok-get.ensures.lookup.0 in
    let place = c.in_ok-length.ensures.lookup in
    part_is _ _ c.args.number _ _ _ c.get-3.result
    (omega arith)
    (omega (arith, c.in_ok-place.ensures, place))
    (omega (arith, c.in_ok-place.ensures, c.in_ok-start.ensures))
    rest.3
    rest.2
    (place.3.1 0 ∙ ap (λ (i : ℕ). get_or c.args.lengths.now i 0) (omega (arith, c.in_ok-place.ensures)))
    c.get-3.ensures.lookup
