-- What the private functions of the sink's call promise. Nothing rests on believing it: what the
-- call promises is `SinkPromise` of gmp_sink. Assumes nothing.
use Rattle.std.specs.Prelude.{◌≡◌, Bool, List, ◌++◌, ℕ, length, drop}
use Rattle.refusals.specs.Table.{accepted}
use Rattle.gmp_settings.specs.declared.Settings.{Settings}
use Rattle.gmp_frame.specs.Frame.{control_of}
use Rattle.gmp_payload_type.specs.declared.Expected.{Expected}
use Rattle.gmp_sink.specs.declared.SinkState.{SinkState}
use Rattle.std.specs.Prelude.{Result}
use Rattle.gmp_refusal.specs.declared.Refusal.{Refusal}
use Rattle.gmp_standing.specs.declared.Standing.{Standing}
use Rattle.gmp_sink.specs.declared.SinkResult.{SinkResult}
use Rattle.gmp_sink.specs.Sink.{released, standing_after, frame_after, mended_in, answer_meaning}

-- bytes handed out at the start of a buffer, and their number
pub record HandsOut (bytes out : List ℕ) (r : ℕ) (after : List ℕ) : Type 0 where
  pub length_is : r ≡ length bytes
  pub buffer : after ≡ bytes ++ drop (length bytes) out

-- what the control word and the PSI byte of a frame lead to
pub record ReadsFrame (s : Settings) (z : SinkState) (e : Expected) (frame : List ℕ) (answer : Result Standing Refusal) (state : SinkState) (mended : Bool) : Type 0 where
  pub answer_is : answer_meaning answer ≡ accepted (standing_after s z (control_of s.k frame))
  pub state_is : state ≡ frame_after s z e frame
  pub mended_is : mended ≡ mended_in s (control_of s.k frame)

-- the whole call, if no number turns it back
pub record AcceptedPromise (s : Settings) (z : SinkState) (e : Expected) (frame out : List ℕ) (r : SinkResult) (after : List ℕ) : Type 0 where
  pub hands : HandsOut (released s z e frame) out r.handed after
  pub reads : ReadsFrame s z e frame r.answer r.state r.mended
