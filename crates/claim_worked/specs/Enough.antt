-- What the claims are used for, with their numbers written out: demand 3 and what stands beside it,
-- of one sink; what mending is for (02, P1); and how evenly the client bytes lie (02, P9). Each of
-- these follows from a claim, so a weaker claim is noticed here. Assumes nothing.
use Rattle.std.specs.Prelude.{◌≡◌, Bool, true, false, List, [], ℕ, ◌+◌, ◌-◌, ◌*◌, ◌≤◌, ◌<◌, length}
use Rattle.gmp_settings.specs.declared.Settings.{Settings}
use Rattle.gmp_standing.specs.declared.Count.TheVariants.{Known}
use Rattle.gmp_places.specs.Even.{places_in}
use Rattle.gmp_frame.specs.Frame.{control_of}
use Rattle.std.specs.Prelude.{Some}
use Rattle.gmp_payload_type.specs.declared.Seen.TheVariants.{Once, Twice}
use Rattle.gmp_source.specs.declared.SourceState.{SourceState}
use Rattle.gmp_sink.specs.declared.SinkState.{SinkState}
use Rattle.claim_recovery.specs.Runs.{Nth, SourceCall, SinkCall, SourceStep, SinkStep, sink_after, source_steps, sink_steps, frame_of, load_of, count_of, mended_of}
use Rattle.claim_recovery.specs.Demand.{SourceRun, Reads, Unharmed, wrong_control_bits, Hands, Delivers, HoldsCount, PassedOn, zeros_before, NoFalseCount}
use Rattle.claim_recovery.specs.Mended.{OneWrong, Held}

-- a sink in any state that read two unharmed frames or more holds the last count, and delivers each
-- frame behind the second
pub record BackAfterTwo (s : Settings) (sent : List SourceStep) (m n : ℕ) (z : SinkState) (reader : List SinkCall) : Type 0 where
  pub hold : HoldsCount sent n z reader
  pub deliver : (i : ℕ) → m + 2 ≤ i → i ≤ n → (x : SourceStep) × (y : SinkStep) × Nth sent i x × Nth (sink_steps z reader) (i + 1 - m) y × Delivers s x y

abbrev pub TwoFrames : Type 0
TwoFrames =
    (s : Settings) (source : SourceState) (calls : List SourceCall) → SourceRun s source calls
    → (m n : ℕ) (z : SinkState) (reader : List SinkCall) → m + 1 ≤ n → Reads s (source_steps source calls) Unharmed m n z reader
    → BackAfterTwo s (source_steps source calls) m n z reader

-- With the type check on, told each frame's own number and this expected type: the call for frame i
-- hands out its load, or nothing.
pub record Handed (sent : List SourceStep) (m i : ℕ) (z : SinkState) (reader : List SinkCall) (bytes : SourceStep → List ℕ) : Type 0 where
  pub frame : SourceStep
  pub call : SinkStep
  pub sent_as : Nth sent i frame
  pub read_by : Nth (sink_steps z reader) (i + 1 - m) call
  pub hands : Hands (bytes frame) call

abbrev pub nothing : SourceStep → List ℕ
nothing x = []

-- Before frame i so many frames numbered 0 were read, and the sink began in such a state.
abbrev pub TypedFrom : (SinkState → ℕ → Type 0) → ℕ → Type 0
TypedFrom Began zeros =
    (s : Settings) → s.type_check ≡ true → (source : SourceState) (calls : List SourceCall) → SourceRun s source calls
    → (m n : ℕ) (z : SinkState) (reader : List SinkCall) → Began z source.payload_type
    → Reads s (source_steps source calls) (PassedOn Unharmed source.payload_type) m n z reader
    → (i : ℕ) → m + 2 ≤ i → i ≤ n → zeros ≤ zeros_before (source_steps source calls) m i
    → Handed (source_steps source calls) m i z reader load_of

abbrev pub OtherFrom : (SinkState → ℕ → Type 0) → ℕ → Type 0
OtherFrom Began zeros =
    (s : Settings) → s.type_check ≡ true → (source : SourceState) (calls : List SourceCall) → SourceRun s source calls
    → (expected m n : ℕ) (z : SinkState) (reader : List SinkCall) → (source.payload_type ≡ expected → ⊥) → Began z source.payload_type
    → Reads s (source_steps source calls) (PassedOn Unharmed expected) m n z reader
    → (i : ℕ) → m + 2 ≤ i → i ≤ n → zeros ≤ zeros_before (source_steps source calls) m i
    → Handed (source_steps source calls) m i z reader nothing

abbrev pub InAnyState : SinkState → ℕ → Type 0
InAnyState z k = Unit

abbrev pub SawOnce : SinkState → ℕ → Type 0
SawOnce z k = z.types.seen ≡ Once k

abbrev pub SawTwice : SinkState → ℕ → Type 0
SawTwice z k = z.types.seen ≡ Twice k

abbrev pub HadAccepted : SinkState → ℕ → Type 0
HadAccepted z k = z.types.accepted ≡ Some k

-- With mending on, a sink in step that reads frames with at most one wrong control bit: its call
-- for frame i delivers it, the sink holds its count then, and with so many wrong bits it is told as
-- mended, or not.
pub record Told (s : Settings) (sent : List SourceStep) (m i : ℕ) (z : SinkState) (reader : List SinkCall) (wrong : ℕ) (mended : Bool) : Type 0 where
  pub frame : SourceStep
  pub call : SinkStep
  pub sent_as : Nth sent i frame
  pub read_by : Nth (sink_steps z reader) (i + 1 - m) call
  pub delivers : Delivers s frame call
  pub holds : (sink_after call).count ≡ Known (count_of frame)
  pub told : wrong_control_bits (control_of s.k (frame_of frame)) (control_of s.k call.call.frame) ≡ wrong → mended_of call ≡ mended

abbrev pub ToldWith : ℕ → Bool → Type 0
ToldWith wrong mended =
    (s : Settings) → s.mending ≡ true → (source : SourceState) (calls : List SourceCall) → SourceRun s source calls
    → (m n : ℕ) (z : SinkState) → Held (source_steps source calls) m z
    → (reader : List SinkCall) → Reads s (source_steps source calls) (OneWrong s) m n z reader
    → (i : ℕ) → m ≤ i → i ≤ n → Told s (source_steps source calls) m i z reader wrong mended

pub record Enough : Type 0 where
  pub two_frames : TwoFrames
  -- three frames numbered 0 from any state; two where one with the type came last before frame m,
  -- one where two did; none where the type was accepted
  pub three_types : TypedFrom InAnyState 3
  pub two_types : TypedFrom SawOnce 2
  pub one_type : TypedFrom SawTwice 1
  pub no_type : TypedFrom HadAccepted 0
  -- and nothing of another type
  pub other_type : OtherFrom InAnyState 3
  -- 768 frames are enough for that
  pub three_come : (s : Settings) (source : SourceState) (calls : List SourceCall) → SourceRun s source calls
      → (m : ℕ) → 1 ≤ m → m + 767 ≤ length (source_steps source calls) → 3 ≤ zeros_before (source_steps source calls) m (m + 768)
  -- three wrong control bits a frame, or two with mending on, make no count false
  pub three_bits : NoFalseCount false 3
  pub two_bits : NoFalseCount true 2
  -- a frame with one wrong control bit is told as mended, one with none is not
  pub one_told : ToldWith 1 true
  pub none_told : ToldWith 0 false
  -- of any run of an OPU0 frame 15,232 × the client bytes is less than 15,232 from L × C
  pub opu0_run : (C a L : ℕ) → C ≤ 15232 → a + L ≤ 15232
      → (15232 * places_in C 15232 a L < L * C + 15232) × (L * C < 15232 * places_in C 15232 a L + 15232)
  -- with the count 14,408 any 1,904 successive payload bytes carry 1,801 client bytes, no more and
  -- no less: 1,904 × 14,408 / 15,232 is a whole number
  pub exact_run : (a : ℕ) → a + 1904 ≤ 15232 → places_in 14408 15232 a 1904 ≡ 1801
  -- with the count 14,407 any 1,000 carry 945 or 946 (CARD.md)
  pub card_run : (a : ℕ) → a + 1000 ≤ 15232 → (945 ≤ places_in 14407 15232 a 1000) × (places_in 14407 15232 a 1000 ≤ 946)
