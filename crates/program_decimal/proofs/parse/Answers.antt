-- `program_decimal::parse` meets its contract. At each turn the number read so far, with the rest
-- of the text behind it, is what the text spells. Assumes nothing.
use mathlib.Core.Path.{sym, ap, ◌∙◌}
use Prim.Native.Nat.{ℕ, ◌+◌}
use native.Mathlib.Omega.{arith}
use lib.ListN.{drop}
use Rattle.std.specs.Prelude.{Option}
use Rattle.program_decimal.specs.Number.{number_of}
use Rattle.program_decimal.proofs.Reading.{onwards, moves, ends}
use Rattle.program_decimal.proofs.parse.Goals as goal

pub returns-then-is_empty : goal.returns-then-is_empty
unfolding number_of
returns-then-is_empty c = simp (sym c.if-is_empty.ensures)

pub loop-digit-init : goal.loop-digit-init
unfolding number_of
loop-digit-init c = (omega arith, simp (sym c.if-is_empty.ensures))

pub returns-in_err-n : goal.returns-in_err-n
returns-in_err-n c =
    let s = c.args.text.now in
    let l = c.loop-digit in
    let w = c.with_digit in
    c.from_residual.ensures ∙ sym (l.invariant.1 ∙ moves s l.n l.digit-index w.result (omega arith) w.ensures
    ∙ ap (λ (x : Option ℕ). onwards x (drop (l.digit-index + 1) s)) c.in_err-n.was)

pub loop-digit-preserved : goal.loop-digit-preserved
loop-digit-preserved c =
    let s = c.args.text.now in
    let l = c.loop-digit in
    let w = c.with_digit in (
      omega arith,
      l.invariant.1 ∙ moves s l.n l.digit-index w.result (omega arith) w.ensures
          ∙ ap (λ (x : Option ℕ). onwards x (drop (l.digit-index + 1) s)) c.in_ok-n.was,
    )

pub returns : goal.returns
returns c =
    let l = c.loop-digit in
    sym (l.invariant.1 ∙ ends c.args.text.now l.n l.digit-index (omega arith) l.invariant.0)
