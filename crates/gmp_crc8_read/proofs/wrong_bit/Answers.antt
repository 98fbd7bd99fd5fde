-- `gmp_crc8_read::wrong_bit` meets its contract: the search, from the last bit to the first.
-- Assumes nothing.
use mathlib.Core.Path.{◌≡◌, sym, ◌∙◌}
use Prim.Native.Nat.{◌-◌}
use native.Mathlib.Omega.{arith}
use borrow.Author.Tests.{eq-eqb, ne_eqb}
use Rattle.gmp_crc8.specs.Checked.{one_bit}
use Rattle.gmp_crc8.proofs.Mending.{search_start, search_next, search_end}
use Rattle.gmp_crc8_read.proofs.wrong_bit.Goals as goal

pub loop-bit-init : goal.loop-bit-init
loop-bit-init c = search_start c.args.syndrome

pub loop-bit-preserved-then-one_bit-syndrome : goal.loop-bit-preserved-then-one_bit-syndrome
loop-bit-preserved-then-one_bit-syndrome c =
    let l = c.loop-bit in
    let is_it : one_bit (l.bit - 1) ≡ c.args.syndrome = sym c.one_bit.ensures ∙ c.if-one_bit-syndrome.true in
    search_next _ l.bit l.found _ (omega arith) l.invariant (rw (eq-eqb (one_bit (l.bit - 1)) c.args.syndrome is_it))

pub loop-bit-preserved : goal.loop-bit-preserved
loop-bit-preserved c =
    let l = c.loop-bit in
    let is_not : one_bit (l.bit - 1) ≡ c.args.syndrome → ⊥ = λ e. c.if-one_bit-syndrome.false (c.one_bit.ensures ∙ e) in
    search_next _ l.bit l.found _ (omega arith) l.invariant (rw (ne_eqb (one_bit (l.bit - 1)) c.args.syndrome is_not))

pub returns : goal.returns
returns c = search_end c.args.syndrome c.loop-bit.bit _ (omega arith) c.loop-bit.invariant
