-- What mending is for (02, P1): "On our longest spans single bit errors put the sink back to
-- hunting." With mending on, a frame with one wrong control bit costs nothing. Assumes nothing.
use Rattle.std.specs.Prelude.{◌≡◌, Bool, true, not, List, map, ℕ, ◌+◌, ◌-◌, ◌≤◌, eqb}
use Rattle.gmp_settings.specs.declared.Settings.{Settings}
use Rattle.gmp_settings.specs.Settings.{with_mending, with_type_check}
use Rattle.gmp_standing.specs.declared.Count.TheVariants.{Known}
use Rattle.gmp_frame.specs.Frame.{control_of, OthersSame}
use Rattle.gmp_source.specs.declared.SourceState.{SourceState}
use Rattle.gmp_sink.specs.declared.SinkState.{SinkState}
use Rattle.claim_recovery.specs.Runs.{Nth, SourceCall, SinkCall, SourceStep, SinkStep, sink_after, source_steps, sink_steps, frame_of, count_of, mended_of}
use Rattle.claim_recovery.specs.Demand.{SourceRun, Reads, Unharmed, wrong_control_bits, AtMostWrong, Delivers, HoldsCount, PassedOn, TypedEach}

-- A frame lent with at most one wrong control bit, its other bytes unharmed.
pub record OneWrong (s : Settings) (x : SourceStep) (y : SinkStep) : Type 0 where
  pub control : AtMostWrong 1 s x y
  pub others : OthersSame s.k y.call.frame (frame_of x)

-- The call delivers the frame as if it were unharmed, the sink holds its count then, and the frame
-- is told as mended where a bit was wrong and not where none was.
pub record Keeps (s : Settings) (x : SourceStep) (y : SinkStep) : Type 0 where
  pub delivers : Delivers s x y
  pub holds : (sink_after y).count ≡ Known (count_of x)
  pub told : mended_of y ≡ not (eqb (wrong_control_bits (control_of s.k (frame_of x)) (control_of s.k y.call.frame)) 0)

-- Frames first to n, each kept by its call. (The sink read from frame m, so its call for frame i is
-- its (i + 1 - m)-th.)
abbrev pub KeepsEach : Settings → List SourceStep → (m first n : ℕ) → SinkState → List SinkCall → Type 0
KeepsEach s sent m first n z reader =
    (i : ℕ) → first ≤ i → i ≤ n → (x : SourceStep) × (y : SinkStep) × Nth sent i x × Nth (sink_steps z reader) (i + 1 - m) y × Keeps s x y

-- the sink holds the source's count before frame m
abbrev pub Held : List SourceStep → (m : ℕ) → SinkState → Type 0
Held sent m z = (x : SourceStep) → Nth sent m x → z.count ≡ Known x.state.count

-- With mending on, a sink that holds the source's count before frame m and reads frames in
-- succession, each with at most one wrong control bit, its other bytes unharmed, keeps each of
-- them. One in any state holds the count after two such frames, and keeps each such frame that
-- follows; and with the type check on too, its bytes come as they do by unharmed frames.
pub record CostsNothing : Type 0 where
  pub holding : (s : Settings) → s.mending ≡ true → (source : SourceState) (calls : List SourceCall) → SourceRun s source calls
      → (m n : ℕ) (z : SinkState) → Held (source_steps source calls) m z
      → (reader : List SinkCall) → Reads s (source_steps source calls) (OneWrong s) m n z reader
      → KeepsEach s (source_steps source calls) m m n z reader × (m ≤ n → HoldsCount (source_steps source calls) n z reader)
  pub hunting : (s : Settings) → s.mending ≡ true → (source : SourceState) (calls : List SourceCall) → SourceRun s source calls
      → (m n : ℕ) (z : SinkState) (reader : List SinkCall) → Reads s (source_steps source calls) (OneWrong s) m n z reader
      → KeepsEach s (source_steps source calls) m (m + 2) n z reader × (m + 1 ≤ n → HoldsCount (source_steps source calls) n z reader)
  pub typed_holding : (s : Settings) → s.mending ≡ true → s.type_check ≡ true → (source : SourceState) (calls : List SourceCall) → SourceRun s source calls
      → (expected m n : ℕ) (z : SinkState) → Held (source_steps source calls) m z
      → (reader : List SinkCall) → Reads s (source_steps source calls) (PassedOn (OneWrong s) expected) m n z reader
      → TypedEach source (source_steps source calls) expected m m n z reader
  pub typed_hunting : (s : Settings) → s.mending ≡ true → s.type_check ≡ true → (source : SourceState) (calls : List SourceCall) → SourceRun s source calls
      → (expected m n : ℕ) (z : SinkState) (reader : List SinkCall) → Reads s (source_steps source calls) (PassedOn (OneWrong s) expected) m n z reader
      → TypedEach source (source_steps source calls) expected m (m + 2) n z reader

-- the flags that are the sink's own: mending, and the type check (02, P4)
pub record Flags : Type 0 where
  pub mending : Bool
  pub type_check : Bool

abbrev pub with_flags : Settings → Flags → Settings
with_flags s b = with_type_check (with_mending s b.mending) b.type_check

-- a source's call with these flags in its settings, and such a step
abbrev pub flagged_call : Flags → SourceCall → SourceCall
flagged_call b c = record { settings = with_flags c.settings b; next = c.next; client = c.client; buffer = c.buffer }

abbrev pub flagged_step : Flags → SourceStep → SourceStep
flagged_step b x = record { call = flagged_call b x.call; state = x.state }

-- a sink that reads the frames of some calls of a source reads those of the calls with the flags
abbrev pub ReadsAlike : (Settings → SourceStep → SinkStep → Type 0) → Type 0
ReadsAlike Lent =
    (b : Flags) (source : SourceState) (calls : List SourceCall) (s : Settings) (m n : ℕ) (z : SinkState) (reader : List SinkCall)
    → Reads s (source_steps source calls) (Lent s) m n z reader → Reads s (source_steps source (map (flagged_call b) calls)) (Lent s) m n z reader

-- The flags are the sink's own: sources do not look at them. The same calls with them on or off are
-- a source run too, their steps write the same frames, and a sink that reads the one reads the
-- other. So what is claimed of a sink with the source's settings holds where they differ in the
-- flags alone.
pub record SinksOwn : Type 0 where
  pub run : (b : Flags) (s : Settings) (source : SourceState) (calls : List SourceCall) → SourceRun s source calls
      → SourceRun (with_flags s b) source (map (flagged_call b) calls)
  pub steps : (b : Flags) (source : SourceState) (calls : List SourceCall) → source_steps source (map (flagged_call b) calls) ≡ map (flagged_step b) (source_steps source calls)
  pub frame : (b : Flags) (x : SourceStep) → frame_of (flagged_step b x) ≡ frame_of x
  pub unharmed : ReadsAlike (λ s. Unharmed)
  pub few_wrong : (most : ℕ) → ReadsAlike (AtMostWrong most)
  pub one_wrong : ReadsAlike OneWrong
  pub passed_on : (expected : ℕ) → ReadsAlike (λ s. PassedOn Unharmed expected)
  pub one_wrong_passed_on : (expected : ℕ) → ReadsAlike (λ s. PassedOn (OneWrong s) expected)
