-- Runs (01, "Whole runs"): "A source run is any list of source calls from a new source; a sink run
-- is any list of calls of one sink, from a new one or from the state named. Refused calls stand in
-- both. Each call gets the state that the call before it in its list returned .. The other
-- arguments are free". Assumes nothing.
use Rattle.std.specs.Prelude.{◌≡◌, Bool, cond, List, [], ◌∷◌, ℕ, zero, suc, ◌<◌, eqb, length}
use Rattle.gmp_settings.specs.declared.Settings.{Settings}
use Rattle.refusals.specs.Table.{Answer}
use Rattle.gmp_standing.specs.Standing.{Finding}
use Rattle.gmp_source.specs.declared.SourceState.{SourceState}
use Rattle.gmp_source.specs.Source.{source_refusal, multiframe_number, source_state, source_frame}
use Rattle.gmp_payload_type.specs.declared.Expected.{Expected}
use Rattle.gmp_sink.specs.declared.SinkState.{SinkState}
use Rattle.gmp_sink.specs.Sink.{sink_refusal, sink_answer, sink_state, sink_mended, sink_handed, sink_out}

-- x is the element at place i of a list, counted from 0
abbrev pub At : {A : Type 0} → List A → ℕ → A → Type 0
At [] i x = ⊥
At (y ∷ l) zero x = y ≡ x
At (y ∷ l) (suc i) x = At l i x

-- x is the n-th of a list, counted from 1 as the paper counts frames
abbrev pub Nth : {A : Type 0} → List A → ℕ → A → Type 0
Nth l zero x = ⊥
Nth l (suc i) x = At l i x

-- a list of bytes
abbrev pub Bytes : List ℕ → Type 0
Bytes [] = Unit {0}
Bytes (b ∷ l) = (b < 256) × Bytes l

-- what the caller of a source chooses: the settings, the next count, the client bytes and the frame
-- buffer
pub record SourceCall : Type 0 where
  pub settings : Settings
  pub next : ℕ
  pub client : List ℕ
  pub buffer : List ℕ

-- what the caller of a sink chooses: the settings, what the sink is told of the frame (02, P4: "the
-- multiframe number and the type expected"), the frame that is lent, of bytes, the output buffer,
-- and the port (02, P2: "each sink call names its port")
pub record SinkCall : Type 0 where
  pub settings : Settings
  pub expected : Expected
  pub frame : List ℕ
  pub bytes : Bytes frame
  pub out : List ℕ
  pub port : ℕ

-- a call, and the state that it is given
pub record SourceStep : Type 0 where
  pub call : SourceCall
  pub state : SourceState

pub record SinkStep : Type 0 where
  pub call : SinkCall
  pub state : SinkState

-- the number by which a source's call is turned back, 0 where none is
abbrev pub refusal_of : SourceStep → ℕ
refusal_of x = source_refusal x.call.settings x.state x.call.next (length x.call.client) (length x.call.buffer)

-- whether a call is accepted: no number turns it back
abbrev pub source_takes : SourceStep → Bool
source_takes x = eqb (refusal_of x) 0

abbrev pub sink_takes : SinkStep → Bool
sink_takes y = eqb (sink_refusal y.call.settings (length y.call.frame) (length y.call.out) y.call.port) 0

-- the state that a call returns
abbrev pub source_after : SourceStep → SourceState
source_after x = source_state x.call.settings x.state x.call.next x.call.client x.call.buffer

abbrev pub sink_after : SinkStep → SinkState
sink_after y = sink_state y.call.settings y.state y.call.expected y.call.frame y.call.out y.call.port

-- the accepted calls of a source run from the state z, in order, each with the state that it was
-- given
unfoldable pub source_steps : SourceState → List SourceCall → List SourceStep
source_steps z [] = []
source_steps z (c ∷ cs) =
    let x : SourceStep = record { call = c; state = z } in
    let rest : List SourceStep = source_steps (source_after x) cs in
    cond (source_takes x) (x ∷ rest) rest

-- the accepted calls of a sink run from the state z
unfoldable pub sink_steps : SinkState → List SinkCall → List SinkStep
sink_steps z [] = []
sink_steps z (c ∷ cs) =
    let y : SinkStep = record { call = c; state = z } in
    let rest : List SinkStep = sink_steps (sink_after y) cs in
    cond (sink_takes y) (y ∷ rest) rest

-- the state after a sink run
unfoldable pub sink_end : SinkState → List SinkCall → SinkState
sink_end z [] = z
sink_end z (c ∷ cs) = sink_end (sink_after (record { call = c; state = z })) cs

-- "The n-th accepted source call writes frame n, .. from client bytes called load n, and takes a
-- next count called count n."
abbrev pub frame_of : SourceStep → List ℕ
frame_of x = source_frame x.call.settings x.state x.call.next x.call.client x.call.buffer

abbrev pub load_of : SourceStep → List ℕ
load_of x = x.call.client

abbrev pub count_of : SourceStep → ℕ
count_of x = x.call.next

-- the multiframe number of frame n
abbrev pub number_of : SourceStep → ℕ
number_of x = multiframe_number x.state

-- what an accepted sink call answers, whether it mended a bit (02, P1), the bytes that it hands
-- out, and the output buffer after it
abbrev pub answer_of : SinkStep → Answer Finding
answer_of y = sink_answer y.call.settings y.state y.call.frame y.call.out y.call.port

abbrev pub mended_of : SinkStep → Bool
mended_of y = sink_mended y.call.settings y.call.frame y.call.out y.call.port

abbrev pub handed_of : SinkStep → List ℕ
handed_of y = sink_handed y.call.settings y.state y.call.expected y.call.frame y.call.out y.call.port

abbrev pub out_of : SinkStep → List ℕ
out_of y = sink_out y.call.settings y.state y.call.expected y.call.frame y.call.out y.call.port
