-- Demand 3 (01, "Whole runs"): "a single claim about these lists, and not one for each call".
-- Assumes nothing.
use Rattle.std.specs.Prelude.{◌≡◌, ◌⊎◌, Bool, true, false, cond, List, [], ◌∷◌, ◌++◌, ℕ, suc, ◌+◌, ◌-◌, ◌≤◌, eqb, length, take, drop}
use Rattle.gmp_crc8.specs.Check.{wrong_bits}
use Rattle.gmp_crc8.specs.Claims.{budget}
use Rattle.gmp_settings.specs.declared.Settings.{Settings}
use Rattle.refusals.specs.Table.{accepted}
use Rattle.gmp_standing.specs.declared.Count.TheVariants.{Known, Unknown}
use Rattle.gmp_standing.specs.Standing.{finding, READ, TRACKED}
use Rattle.gmp_control.specs.Word.{equal_indicators, word_by}
use Rattle.gmp_frame.specs.declared.Control.{Control}
use Rattle.gmp_frame.specs.Frame.{control_of}
use Rattle.std.specs.Prelude.{Some}
use Rattle.gmp_payload_type.specs.Types.{times_seen, number_told}
use Rattle.gmp_source.specs.declared.SourceState.{SourceState}
use Rattle.gmp_source.specs.Source.{new_source}
use Rattle.gmp_sink.specs.declared.SinkState.{SinkState}
use Rattle.gmp_sink.specs.Sink.{new_sink}
use Rattle.claim_recovery.specs.Runs.{Nth, SourceCall, SinkCall, SourceStep, SinkStep, source_steps, sink_steps, sink_end, frame_of, load_of, count_of, number_of, answer_of, handed_of, out_of}

-- A source run: any list of calls from a new source. Its accepted calls share the settings s; those
-- that made the source are free.
pub record SourceRun (s : Settings) (source : SourceState) (calls : List SourceCall) : Type 0 where
  pub made_with : Settings
  pub first : ℕ
  pub payload_type : ℕ
  pub made : new_source made_with first payload_type ≡ accepted source
  pub shared : (i : ℕ) (x : SourceStep) → Nth (source_steps source calls) i x → x.call.settings ≡ s

-- "A sink run reads from frame m (m from 1) if its accepted calls, in order, are lent frames m,
-- m + 1, m + 2 and so on of one source run, harmed or not": its j-th accepted call is lent frame
-- m + j - 1, and the last frame n. Lent says how a frame is lent to a call. Where it read none,
-- n is m - 1.
pub record Reads (s : Settings) (sent : List SourceStep) (Lent : SourceStep → SinkStep → Type 0) (m n : ℕ) (z : SinkState) (calls : List SinkCall) : Type 0 where
  pub from : 1 ≤ m
  pub shared : (j : ℕ) (y : SinkStep) → Nth (sink_steps z calls) j y → y.call.settings ≡ s
  pub lent : (j : ℕ) (y : SinkStep) → Nth (sink_steps z calls) j y → (x : SourceStep) × Nth sent (m + j - 1) x × Lent x y
  pub up_to : m + length (sink_steps z calls) ≡ n + 1

-- "A frame is unharmed if it is lent byte for byte as written."
abbrev pub Unharmed : SourceStep → SinkStep → Type 0
Unharmed x y = y.call.frame ≡ frame_of x

-- "Its wrong control bits are those of JC1 to JC3 that differ from the written ones, whatever its
-- other bytes are."
abbrev pub wrong_control_bits : Control → Control → ℕ
wrong_control_bits written lent = wrong_bits written.jc1 written.jc2 written.jc3 lent.jc1 lent.jc2 lent.jc3

abbrev pub AtMostWrong : ℕ → Settings → SourceStep → SinkStep → Type 0
AtMostWrong most s x y = wrong_control_bits (control_of s.k (frame_of x)) (control_of s.k y.call.frame) ≤ most

-- frame i has II = DI
abbrev pub equal_frame : SourceStep → Bool
equal_frame x = let c = control_of x.call.settings.k (frame_of x) in equal_indicators (word_by c.jc1 c.jc2)

-- The call hands out exactly these bytes, "at the start of the output buffer, with the bytes after
-- it unchanged".
pub record Hands (bytes : List ℕ) (y : SinkStep) : Type 0 where
  pub handed : handed_of y ≡ bytes
  pub buffer : out_of y ≡ bytes ++ drop (length bytes) y.call.out

-- The call answers count i, "READ where frame i has II = DI and otherwise TRACKED", and hands out
-- "exactly load i" where the payload type is not checked. Where it is checked it hands out that or
-- nothing, and the typed recovery below says when it is the load (02, P4: "With the check on, the
-- bytes of demand 3 come later").
pub record Delivers (s : Settings) (x : SourceStep) (y : SinkStep) : Type 0 where
  pub standing : answer_of y ≡ accepted (finding (cond (equal_frame x) READ TRACKED) (Known (count_of x)))
  pub unchecked : s.type_check ≡ false → Hands (load_of x) y
  pub no_other : Hands (load_of x) y ⊎ Hands [] y

-- Two sinks that read up to frame n, a new one from frame 1 and one in the state z from frame m:
-- "after them both sinks hold count n", and "for each frame i from m + 2 to n both accepted calls"
-- deliver frame i. (The new sink's call for frame i is its i-th, the other's its (i + 1 - m)-th.)
pub record Recovered (s : Settings) (sent : List SourceStep) (m n : ℕ) (from_first : List SinkCall) (z : SinkState) (from_any : List SinkCall) : Type 0 where
  pub hold : (x : SourceStep) × Nth sent n x × ((sink_end new_sink from_first).count ≡ Known (count_of x)) × ((sink_end z from_any).count ≡ Known (count_of x))
  pub deliver : (i : ℕ) → m + 2 ≤ i → i ≤ n → (x : SourceStep) × (y : SinkStep) × (y' : SinkStep)
      × Nth sent i x × Nth (sink_steps new_sink from_first) i y × Nth (sink_steps z from_any) (i + 1 - m) y' × Delivers s x y × Delivers s x y'

-- The first claim: "For every source run, every m and every two sink runs that read it unharmed up
-- to the same frame n, n at least m + 1, one of a new sink from frame 1, the other of a sink in any
-- state from frame m".
abbrev pub Recovery : Type 0
Recovery =
    (s : Settings) (source : SourceState) (calls : List SourceCall) → SourceRun s source calls
    → (m n : ℕ) → m + 1 ≤ n
    → (from_first : List SinkCall) → Reads s (source_steps source calls) Unharmed 1 n new_sink from_first
    → (z : SinkState) (from_any : List SinkCall) → Reads s (source_steps source calls) Unharmed m n z from_any
    → Recovered s (source_steps source calls) m n from_first z from_any

-- after all its calls the sink holds count n
abbrev pub HoldsCount : List SourceStep → (n : ℕ) → SinkState → List SinkCall → Type 0
HoldsCount sent n z reader = (x : SourceStep) × Nth sent n x × ((sink_end z reader).count ≡ Known (count_of x))

-- The same of one sink alone, in the state z from frame m, with no second sink beside it. 01 does
-- not ask for it; docs/PROMISES.md promises it.
pub record RecoveredAlone (s : Settings) (sent : List SourceStep) (m n : ℕ) (z : SinkState) (reader : List SinkCall) : Type 0 where
  pub hold : HoldsCount sent n z reader
  pub deliver : (i : ℕ) → m + 2 ≤ i → i ≤ n → (x : SourceStep) × (y : SinkStep) × Nth sent i x × Nth (sink_steps z reader) (i + 1 - m) y × Delivers s x y

abbrev pub RecoveryAlone : Type 0
RecoveryAlone =
    (s : Settings) (source : SourceState) (calls : List SourceCall) → SourceRun s source calls
    → (m n : ℕ) (z : SinkState) (reader : List SinkCall) → m + 1 ≤ n → Reads s (source_steps source calls) Unharmed m n z reader
    → RecoveredAlone s (source_steps source calls) m n z reader

-- The frame is lent so, and the sink is told the number that the source wrote it with, and that
-- this type is expected (02, P4: "a user who passes on the source's own multiframe numbers and one
-- expected type").
pub record PassedOn (Lent : SourceStep → SinkStep → Type 0) (payload_type : ℕ) (x : SourceStep) (y : SinkStep) : Type 0 where
  pub lent : Lent x y
  pub number : number_told y.call.expected ≡ number_of x
  pub expected : y.call.expected.payload_type ≡ payload_type

-- how many of these frames are numbered 0, and how many of the frames m to i - 1
abbrev pub zero_frames : List SourceStep → ℕ
zero_frames [] = 0
zero_frames (x ∷ xs) = cond (eqb (number_of x) 0) (suc (zero_frames xs)) (zero_frames xs)

abbrev pub zeros_before : List SourceStep → ℕ → ℕ → ℕ
zeros_before sent m i = zero_frames (take (i - m) (drop (m - 1) sent))

-- The source's type came before frame i, at a sink that began in the state z with frame m: the sink
-- had accepted it before, or "three unharmed frames numbered 0 .. have also come". These are the
-- frames numbered 0 among the frames m to i - 1, and before them those that the sink had seen last
-- with this type, "and no other frame numbered 0 among them".
abbrev pub TypeCame : SourceState → List SourceStep → (m i : ℕ) → SinkState → Type 0
TypeCame source sent m i z =
    let is = source.payload_type in
    (z.types.accepted ≡ Some is) ⊎ (3 ≤ times_seen z.types.seen is + zeros_before sent m i)

-- The call for frame i hands out exactly its load where the source's type is the expected one, and
-- nothing where it is another.
pub record Typed (source : SourceState) (sent : List SourceStep) (expected m i : ℕ) (z : SinkState) (reader : List SinkCall) : Type 0 where
  pub frame : SourceStep
  pub call : SinkStep
  pub sent_as : Nth sent i frame
  pub read_by : Nth (sink_steps z reader) (i + 1 - m) call
  pub same : source.payload_type ≡ expected → Hands (load_of frame) call
  pub other : (source.payload_type ≡ expected → ⊥) → Hands [] call

-- so for each of the frames first to n for which the type came
abbrev pub TypedEach : SourceState → List SourceStep → (expected m first n : ℕ) → SinkState → List SinkCall → Type 0
TypedEach source sent expected m first n z reader = (i : ℕ) → first ≤ i → i ≤ n → TypeCame source sent m i z → Typed source sent expected m i z reader

-- "has the count after two frames, and .. the bytes at the latest once three unharmed frames
-- numbered 0 .. have also come": after n, n at least m + 1, the sink holds count n, and for each
-- frame i from m + 2 to n for which the type came its call is as above.
pub record TypedRecovered (source : SourceState) (sent : List SourceStep) (expected m n : ℕ) (z : SinkState) (reader : List SinkCall) : Type 0 where
  pub hold : m + 1 ≤ n → HoldsCount sent n z reader
  pub bytes : TypedEach source sent expected m (m + 2) n z reader

-- The first claim with the type check on (02, P4): "a user who passes on the source's own
-- multiframe numbers and one expected type, recovering from an arbitrary state". A sink in any
-- state that reads from frame m unharmed, told each frame's own number and one type.
abbrev pub TypedRecovery : Type 0
TypedRecovery =
    (s : Settings) → s.type_check ≡ true → (source : SourceState) (calls : List SourceCall) → SourceRun s source calls
    → (expected m n : ℕ) (z : SinkState) (reader : List SinkCall) → Reads s (source_steps source calls) (PassedOn Unharmed expected) m n z reader
    → TypedRecovered source (source_steps source calls) expected m n z reader

-- Any 768 frames in succession hold three numbered 0: the frames m to i - 1, which were sent. It is
-- no part of demand 3: the desk is told the figure.
abbrev pub ThreeCome : Type 0
ThreeCome =
    (s : Settings) (source : SourceState) (calls : List SourceCall) → SourceRun s source calls
    → (m i : ℕ) → 1 ≤ m → m + 768 ≤ i → i ≤ length (source_steps source calls) + 1 → 3 ≤ zeros_before (source_steps source calls) m i

-- "the sink holds no count, or count n of the last frame n that it read; no count where it read
-- none"
pub record NotFalse (sent : List SourceStep) (n : ℕ) (calls : List SinkCall) : Type 0 where
  pub count : ((sink_end new_sink calls).count ≡ Unknown) ⊎ ((x : SourceStep) × Nth sent n x × ((sink_end new_sink calls).count ≡ Known (count_of x)))
  pub none : sink_steps new_sink calls ≡ [] → (sink_end new_sink calls).count ≡ Unknown

-- The second claim, for settings with mending or without: "For every source run, every m and every
-- sink run of a new sink from frame m in which no frame read has more than" so many "wrong control
-- bits".
abbrev pub NoFalseCount : Bool → ℕ → Type 0
NoFalseCount mending most =
    (s : Settings) → s.mending ≡ mending → (source : SourceState) (calls : List SourceCall) → SourceRun s source calls
    → (m n : ℕ) (reader : List SinkCall) → Reads s (source_steps source calls) (AtMostWrong most s) m n new_sink reader
    → NotFalse (source_steps source calls) n reader

-- Demand 3: 01's two claims as 02 has them. Of the first P4 says when the bytes come with the type
-- check on. The second goes by the budget of the check: three wrong bits, as in 01; and with
-- mending on P1: "the guarantee against false counts covers two wrong bits a frame, no longer
-- three; recovery after two unharmed frames is as before".
pub record Demand3 : Type 0 where
  pub recovery : Recovery
  pub typed_recovery : TypedRecovery
  pub no_false_count : (mending : Bool) → NoFalseCount mending (budget mending)
