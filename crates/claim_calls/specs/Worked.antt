-- Observed calls, worked: that such lists of calls there are, and how many bytes those of a sink
-- say to hand out. A source and two sinks of one card go on the grid K = 2, as in `claim_worked`,
-- with refused calls among theirs. Assumes nothing.
use Rattle.std.specs.Prelude.{◌≡◌, cond, List, [], ◌∷◌, ℕ}
use Rattle.refusals.specs.Table.{accepts}
use Rattle.card_tally.specs.declared.Tallies.{Tallies}
use Rattle.card_tally.specs.Ports.{new_tallies}
use Rattle.gmp_sink.specs.declared.SinkState.{SinkState}
use Rattle.gmp_sink.specs.Sink.{answer_meaning, new_sink}
use Rattle.claim_recovery.specs.Runs.{SourceCall, SinkCall}
use Rattle.claim_worked.specs.Run.{small, wrong, room, send, source, frame1, frame2, frame3, lend_on, lost}
use Rattle.claim_calls.specs.Observed.{SourceSeen, SinkSeen, SourcePassed, SinkPassed, TalliesPassed, source_calls, sink_calls}

-- a count of 3 and then of 4, and between them a call that number 1 turns back
abbrev pub sent : List SourceCall
sent = send small 4 (11 ∷ 12 ∷ 13 ∷ []) ∷ send wrong 4 (11 ∷ 12 ∷ 13 ∷ 14 ∷ []) ∷ send small 6 (21 ∷ 22 ∷ 23 ∷ 24 ∷ []) ∷ []

-- a new sink on port 1, with a call that number 10 turns back, and one with a false count on port 5
abbrev pub on_one : List SinkCall
on_one = lend_on 1 small frame1 tt room ∷ lend_on 9 small frame1 tt room ∷ lend_on 1 small frame2 tt room ∷ lend_on 1 small frame3 tt room ∷ []

abbrev pub on_five : List SinkCall
on_five = lend_on 5 small frame2 tt room ∷ []

-- how many bytes the accepted calls of these said to hand out
abbrev pub handed_numbers : List SinkSeen → List ℕ
handed_numbers [] = []
handed_numbers (c ∷ cs) = cond (accepts (answer_meaning c.result.answer)) (c.result.handed ∷ handed_numbers cs) (handed_numbers cs)

pub record WorkedSeen : Type 0 where
  pub source_seen : List SourceSeen
  pub source_passed : SourcePassed source source_seen
  pub calls_sent : source_calls source_seen ≡ sent
  -- the calls of the two sinks, each with its states passed on
  pub first : SinkSeen
  pub refused : SinkSeen
  pub third : SinkSeen
  pub fourth : SinkSeen
  pub other : SinkSeen
  pub one_end : SinkState
  pub one_passed : SinkPassed new_sink (first ∷ refused ∷ third ∷ fourth ∷ []) one_end
  pub one_calls : sink_calls (first ∷ refused ∷ third ∷ fourth ∷ []) ≡ on_one
  pub five_end : SinkState
  pub five_passed : SinkPassed lost (other ∷ []) five_end
  pub five_calls : sink_calls (other ∷ []) ≡ on_five
  -- in turn on one card, whose tallies go through all
  pub tallies : Tallies
  pub card_passed : TalliesPassed new_tallies (first ∷ other ∷ refused ∷ third ∷ fourth ∷ []) tallies
  -- whatever calls these are that keep their promises: the new sink's said to hand out nothing,
  -- nothing, and the 6 bytes of frame 3
  pub one_handed : (seen : List SinkSeen) (e : SinkState) → SinkPassed new_sink seen e → sink_calls seen ≡ on_one → handed_numbers seen ≡ 0 ∷ 0 ∷ 6 ∷ []
