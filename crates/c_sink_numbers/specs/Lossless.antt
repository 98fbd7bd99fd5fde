-- What crosses can be read back: no state, answer, mended bit or tallies are lost on the way out,
-- and the 24 numbers of tallies that nothing changed come back as they were lent.
-- Assumes nothing.
use Rattle.std.specs.Prelude.{◌≡◌, Bool, not, cond, List, ℕ, eqb, length}
use Rattle.refusals.specs.Table.{Answer, accepted, refused}
use Rattle.gmp_standing.specs.declared.Standing.{Standing}
use Rattle.gmp_standing.specs.Standing.{Finding, finding, READ, TRACKED, PAIRED, BADCHECK, WAITING, OUTSIDE, standing_meaning}
use Rattle.ports.specs.Port.{ports}
use Rattle.card_tally.specs.declared.Tallies.{Tallies}
use Rattle.gmp_sink.specs.declared.SinkState.{SinkState}
use Rattle.c_sink_numbers.specs.declared.SinkNumbers.{SinkNumbers}
use Rattle.c_sink_numbers.specs.declared.SinkReply.{SinkReply}
use Rattle.c_sink_numbers.specs.Numbers.{count_from, state_from, state_numbers, sink_reply_by, tallies_from, tallies_numbers}

-- the name of a standing's number
abbrev pub name_from : ℕ → List ℕ
name_from k =
    cond (eqb k 1) READ
    (cond (eqb k 2) TRACKED
    (cond (eqb k 3) PAIRED
    (cond (eqb k 4) BADCHECK
    (cond (eqb k 5) WAITING
    OUTSIDE))))

-- the answer that a reply stands for
abbrev pub answer_from : SinkReply → Answer Finding
answer_from r = cond (eqb r.standing 0) (refused r.refusal) (accepted (finding (name_from r.standing) (count_from r.found r.count)))

-- whether a reply says that a bit was mended
abbrev pub mended_from : SinkReply → Bool
mended_from r = not (eqb r.mended 0)

pub record Lossless : Type 0 where
  pub state : (z : SinkState) → state_from (state_numbers z) ≡ z
  pub standing : (given : SinkNumbers) (x : Standing) (handed : ℕ) (b : Bool) (z : SinkState)
      → answer_from (sink_reply_by given (accepted (standing_meaning x)) handed b z) ≡ accepted (standing_meaning x)
  pub refusal : (given : SinkNumbers) (n handed : ℕ) (b : Bool) (z : SinkState) → answer_from (sink_reply_by given (refused n) handed b z) ≡ refused n
  pub mended : (given : SinkNumbers) (a : Answer Finding) (handed : ℕ) (b : Bool) (z : SinkState) → mended_from (sink_reply_by given a handed b z) ≡ b
  pub tallies : (y : Tallies) → length y.ports ≡ ports → tallies_from (tallies_numbers y) ≡ y
  pub numbers : (l : List ℕ) → length l ≡ 24 → tallies_numbers (tallies_from l) ≡ l
