-- The sink (01, "Sink"). Four things are said apart: what is handed out, over which the gate of the
-- payload type stands (02, P4); how the count follows; how the type follows; and, in the crate
-- card_sink, what the tallies add. Assumes nothing.
use Rattle.std.specs.Prelude.{◌≡◌, Bool, true, false, not, cond, List, [], ◌∷◌, ◌++◌, ℕ, eqb, ltb, length, drop}
use Rattle.gmp_crc8.specs.declared.CheckedWord.{CheckedWord}
use Rattle.gmp_crc8.specs.declared.CheckedWord.TheVariants.{Whole, Mended, Bad}
use Rattle.gmp_crc8.specs.Check.{passes}
use Rattle.gmp_crc8.specs.Checked.{checked_word}
use Rattle.gmp_settings.specs.declared.Settings.{Settings}
use Rattle.gmp_settings.specs.Grid.{frame_bytes}
use Rattle.refusals.specs.Table.{Reason, reason, lowest, ascending, Answer, accepted, refused, answer_by}
use Rattle.gmp_refusal.specs.Refusal.{refusal_number}
use Rattle.gmp_settings.specs.Settings.{settings_reasons, with_type_check}
use Rattle.gmp_settings.specs.Patterns.{bad_patterns}
use Rattle.ports.specs.Port.{bad_port}
use Rattle.gmp_standing.specs.declared.Count.{Count}
use Rattle.gmp_standing.specs.declared.Count.TheVariants.{Known, Unknown}
use Rattle.gmp_standing.specs.Standing.{Finding, finding, BADCHECK, standing_meaning}
use Rattle.gmp_standing.specs.Known.{in_window}
use Rattle.std.specs.Prelude.{Option, Result, Some, None, Ok, Err}
use Rattle.gmp_refusal.specs.declared.Refusal.{Refusal}
use Rattle.gmp_standing.specs.declared.Standing.{Standing}
use Rattle.gmp_control.specs.Word.{word_by}
use Rattle.gmp_control.specs.Follow.{usable, found}
use Rattle.gmp_frame.specs.declared.Control.{Control}
use Rattle.gmp_frame.specs.Frame.{client_bytes, control_of, psi_of}
use Rattle.gmp_payload_type.specs.declared.Types.{Types}
use Rattle.gmp_payload_type.specs.declared.Expected.{Expected}
use Rattle.gmp_payload_type.specs.Types.{new_types, types_after, gate_open}
use Rattle.gmp_sink.specs.declared.SinkState.{SinkState}
use Rattle.gmp_sink.specs.declared.SinkResult.{SinkResult}

-- "a known count or none, and a remembered word or none; a new sink has neither", and it has
-- accepted no payload type (02, P4)
abbrev pub new_sink : SinkState
new_sink = record { count = Unknown; word = None; types = new_types }

-- A call's own lines: 8, "frame buffer not exactly 4K + 8 bytes"; 9, "output buffer shorter than
-- hi"; 10, "a port that is 0 or above 8, after number 9" (02, P2: "each sink call names its port");
-- and 14 (02, P11). The port has no part in a call but this.
abbrev pub sink_reasons : Settings → ℕ → ℕ → ℕ → List Reason
sink_reasons s frameLength outLength port =
    reason 8 (not (eqb frameLength (frame_bytes s.k))) ∷ reason 9 (ltb outLength s.hi) ∷ reason 10 (bad_port port) ∷ reason 14 (bad_patterns s) ∷ []

-- why a call is turned back, or 0
unfoldable pub sink_refusal : Settings → ℕ → ℕ → ℕ → ℕ
sink_refusal s frameLength outLength port = lowest (settings_reasons s ++ sink_reasons s frameLength outLength port)

-- "the lowest number that applies is the answer": a call is turned back by the first line that
-- applies, and the numbers of the lines ascend
abbrev pub NumbersAscend : Type 0
NumbersAscend = (s : Settings) (frameLength outLength port : ℕ)
    → let lines = settings_reasons s ++ sink_reasons s frameLength outLength port in
    (sink_refusal s frameLength outLength port ≡ lowest lines) × (ascending 0 lines ≡ true)

-- "if a count is known, the client bytes at its places go to the start of the output buffer, else
-- none"
abbrev pub at_places : ℕ → Count → List ℕ → List ℕ
at_places k (Known n) frame = client_bytes k n frame
at_places k Unknown frame = []

-- the bytes of a frame for the client: those at the places of the count known before the frame
unfoldable pub handed : Settings → SinkState → List ℕ → List ℕ
handed s z frame = at_places s.k (in_window s z.count) frame

-- The bytes handed out: those, or none "While the accepted type is none or not the expected one"
-- (02, P4). "A frame's PSI byte is judged after its own bytes have or have not been handed out":
-- the gate goes by the types that were remembered before the frame.
unfoldable pub released : Settings → SinkState → Expected → List ℕ → List ℕ
released s z e frame = cond (gate_open s.type_check z.types e) (handed s z frame) []

-- what the control bytes read as: whole, mended where the settings say so, or bad (02, P1)
abbrev pub checked_in : Settings → Control → CheckedWord
checked_in s c = checked_word s.mending c.jc1 c.jc2 c.jc3

-- Rule 1, "The check fails: count none, word none. BADCHECK", which 02, P1 replaces where a bit is
-- mended, or what the word leads to. (Clause 17.7.1 lets a sink still compare the bits of a bad
-- word with the patterns; 01 does not.)
abbrev pub standing_by : Settings → SinkState → CheckedWord → Finding
standing_by s z (Whole w) = found s z.count z.word (word_by w.jc1 w.jc2)
standing_by s z (Mended w) = found s z.count z.word (word_by w.jc1 w.jc2)
standing_by s z Bad = finding BADCHECK Unknown

unfoldable pub standing_after : Settings → SinkState → Control → Finding
standing_after s z c = standing_by s z (checked_in s c)

-- the word that is remembered: that which was read, mended or not, where II ≠ DI
abbrev pub word_after : CheckedWord → Option ℕ
word_after (Whole w) = usable (Some (word_by w.jc1 w.jc2))
word_after (Mended w) = usable (Some (word_by w.jc1 w.jc2))
word_after Bad = None

-- the state after these control bytes: what was found, and the word
unfoldable pub state_after : Settings → SinkState → Control → SinkState
state_after s z c = record { count = (standing_after s z c).count; word = word_after (checked_in s c); types = z.types }

-- the same state with other types remembered
abbrev pub with_types : SinkState → Types → SinkState
with_types z t = record { count = z.count; word = z.word; types = t }

-- the state after a frame: after its control bytes, and then after its PSI byte (01, "the sink
-- ignores them and the PSI byte", which 02, P4 replaces for the PSI byte where the type check is
-- on)
abbrev pub frame_after : Settings → SinkState → Expected → List ℕ → SinkState
frame_after s z e frame =
    with_types (state_after s z (control_of s.k frame)) (types_after s.type_check z.types e (psi_of s.k frame))

-- "whether it was mended"
abbrev pub is_mended : CheckedWord → Bool
is_mended (Whole w) = false
is_mended (Mended w) = true
is_mended Bad = false

unfoldable pub mended_in : Settings → Control → Bool
mended_in s c = is_mended (checked_in s c)

-- With mending off all is as 01 says: the standing, the word that is remembered, and no frame is
-- mended.
pub record OffAsBefore : Type 0 where
  pub standing : (s : Settings) (z : SinkState) (c : Control) → s.mending ≡ false
      → standing_after s z c ≡ cond (passes c.jc1 c.jc2 c.jc3) (found s z.count z.word (word_by c.jc1 c.jc2)) (finding BADCHECK Unknown)
  pub word : (s : Settings) (z : SinkState) (c : Control) → s.mending ≡ false
      → (state_after s z c).word ≡ cond (passes c.jc1 c.jc2 c.jc3) (usable (Some (word_by c.jc1 c.jc2))) None
  pub none_mended : (s : Settings) (c : Control) → s.mending ≡ false → mended_in s c ≡ false

-- the paper's number and values for each case of the answer
abbrev pub answer_meaning : Result Standing Refusal → Answer Finding
answer_meaning (Ok x) = accepted (standing_meaning x)
answer_meaning (Err r) = refused (refusal_number r)

-- the answer of a call
unfoldable pub sink_answer : Settings → SinkState → List ℕ → List ℕ → ℕ → Answer Finding
sink_answer s z frame out port = answer_by (sink_refusal s (length frame) (length out) port) (standing_after s z (control_of s.k frame))

-- the state after a call: a refused call returns the state it was given
unfoldable pub sink_state : Settings → SinkState → Expected → List ℕ → List ℕ → ℕ → SinkState
sink_state s z e frame out port = cond (eqb (sink_refusal s (length frame) (length out) port) 0) (frame_after s z e frame) z

-- whether a call mended a bit: a refused one mends nothing
unfoldable pub sink_mended : Settings → List ℕ → List ℕ → ℕ → Bool
sink_mended s frame out port = cond (eqb (sink_refusal s (length frame) (length out) port) 0) (mended_in s (control_of s.k frame)) false

-- the bytes that a call hands out, and the output buffer after it: "bytes after them keep their
-- content"
unfoldable pub sink_handed : Settings → SinkState → Expected → List ℕ → List ℕ → ℕ → List ℕ
sink_handed s z e frame out port = cond (eqb (sink_refusal s (length frame) (length out) port) 0) (released s z e frame) []

unfoldable pub sink_out : Settings → SinkState → Expected → List ℕ → List ℕ → ℕ → List ℕ
sink_out s z e frame out port = sink_handed s z e frame out port ++ drop (length (sink_handed s z e frame out port)) out

-- What a call promises: its answer, the new state, the number of bytes handed out, whether a bit
-- was mended, and every byte of the output buffer.
pub record SinkPromise (s : Settings) (z : SinkState) (e : Expected) (frame out : List ℕ) (port : ℕ) (r : SinkResult) (after : List ℕ) : Type 0 where
  pub answer : answer_meaning r.answer ≡ sink_answer s z frame out port
  pub state : r.state ≡ sink_state s z e frame out port
  pub handed_bytes : r.handed ≡ length (sink_handed s z e frame out port)
  pub mended : r.mended ≡ sink_mended s frame out port
  pub out_buffer : after ≡ sink_out s z e frame out port

-- "off, all is as before and what is remembered of types stays" (02, P4). What a call hands out and
-- the state after it are what they were without the type check, whatever the call is told; what it
-- answers and mends does not look at the type at all.
pub record UncheckedAsBefore : Type 0 where
  pub state : (s : Settings) (z : SinkState) (e : Expected) (frame out : List ℕ) (port : ℕ) → s.type_check ≡ false
      → sink_state s z e frame out port ≡ cond (eqb (sink_refusal s (length frame) (length out) port) 0) (state_after s z (control_of s.k frame)) z
  pub types : (s : Settings) (z : SinkState) (e : Expected) (frame out : List ℕ) (port : ℕ) → s.type_check ≡ false
      → (sink_state s z e frame out port).types ≡ z.types
  pub handed_bytes : (s : Settings) (z : SinkState) (e : Expected) (frame out : List ℕ) (port : ℕ) → s.type_check ≡ false
      → sink_handed s z e frame out port ≡ cond (eqb (sink_refusal s (length frame) (length out) port) 0) (handed s z frame) []

-- "though counts are followed" (02, P4). Whether the type is checked, what is remembered of types
-- and what the call is told have no part in why it is turned back, in what it answers and mends,
-- and in the count and the word that it leaves.
pub record CountsFollowed : Type 0 where
  pub refusal : (s : Settings) (b : Bool) (frameLength outLength port : ℕ) → sink_refusal (with_type_check s b) frameLength outLength port ≡ sink_refusal s frameLength outLength port
  pub answer : (s : Settings) (b : Bool) (z : SinkState) (t : Types) (frame out : List ℕ) (port : ℕ)
      → sink_answer (with_type_check s b) (with_types z t) frame out port ≡ sink_answer s z frame out port
  pub mended : (s : Settings) (b : Bool) (frame out : List ℕ) (port : ℕ) → sink_mended (with_type_check s b) frame out port ≡ sink_mended s frame out port
  pub count : (s : Settings) (b : Bool) (z : SinkState) (t : Types) (e e' : Expected) (frame out : List ℕ) (port : ℕ)
      → (sink_state (with_type_check s b) (with_types z t) e frame out port).count ≡ (sink_state s z e' frame out port).count
  pub word : (s : Settings) (b : Bool) (z : SinkState) (t : Types) (e e' : Expected) (frame out : List ℕ) (port : ℕ)
      → (sink_state (with_type_check s b) (with_types z t) e frame out port).word ≡ (sink_state s z e' frame out port).word

-- Two ports that number 10 turns back both or neither are alike to a call: its answer, the state
-- and the output buffer after it, what it mends and hands out are the same on the one as on the
-- other.
pub record AnyPort : Type 0 where
  pub refusal : (s : Settings) (frameLength outLength p q : ℕ) → bad_port p ≡ bad_port q → sink_refusal s frameLength outLength p ≡ sink_refusal s frameLength outLength q
  pub answer : (s : Settings) (z : SinkState) (frame out : List ℕ) (p q : ℕ) → bad_port p ≡ bad_port q → sink_answer s z frame out p ≡ sink_answer s z frame out q
  pub state : (s : Settings) (z : SinkState) (e : Expected) (frame out : List ℕ) (p q : ℕ) → bad_port p ≡ bad_port q → sink_state s z e frame out p ≡ sink_state s z e frame out q
  pub mended : (s : Settings) (frame out : List ℕ) (p q : ℕ) → bad_port p ≡ bad_port q → sink_mended s frame out p ≡ sink_mended s frame out q
  pub handed_bytes : (s : Settings) (z : SinkState) (e : Expected) (frame out : List ℕ) (p q : ℕ) → bad_port p ≡ bad_port q → sink_handed s z e frame out p ≡ sink_handed s z e frame out q
  pub out_buffer : (s : Settings) (z : SinkState) (e : Expected) (frame out : List ℕ) (p q : ℕ) → bad_port p ≡ bad_port q → sink_out s z e frame out p ≡ sink_out s z e frame out q
