-- Demand 3 with numbers of frames and wrong bits that are open: 1 frame more than the first, from
-- the second after it on, 3 frames numbered 0, and the budget of the check are demand 3 itself.
-- Assumes nothing.
use Rattle.std.specs.Prelude.{◌≡◌, Bool, true, List, ℕ, ◌+◌, ◌-◌, ◌≤◌}
use Rattle.gmp_crc8.specs.Claims.{budget}
use Rattle.gmp_settings.specs.declared.Settings.{Settings}
use Rattle.gmp_source.specs.declared.SourceState.{SourceState}
use Rattle.gmp_sink.specs.Sink.{new_sink}
use Rattle.claim_recovery.specs.Runs.{Nth, SourceCall, SinkCall, SourceStep, SinkStep, source_steps, sink_steps, load_of}
use Rattle.claim_recovery.specs.Demand.{SourceRun, Reads, Unharmed, Hands, Delivers, HoldsCount, PassedOn, zeros_before, NoFalseCount}

-- the new sink holds count n, n at least m + least
abbrev pub HoldsAfter : ℕ → Type 0
HoldsAfter least =
    (s : Settings) (source : SourceState) (calls : List SourceCall) → SourceRun s source calls
    → (m n : ℕ) → m + least ≤ n
    → (reader : List SinkCall) → Reads s (source_steps source calls) Unharmed m n new_sink reader
    → HoldsCount (source_steps source calls) n new_sink reader

-- and delivers each frame from m + gap
abbrev pub DeliversAfter : ℕ → Type 0
DeliversAfter gap =
    (s : Settings) (source : SourceState) (calls : List SourceCall) → SourceRun s source calls
    → (m n : ℕ) → m + 1 ≤ n
    → (reader : List SinkCall) → Reads s (source_steps source calls) Unharmed m n new_sink reader
    → (i : ℕ) → m + gap ≤ i → i ≤ n → (x : SourceStep) × (y : SinkStep) × Nth (source_steps source calls) i x × Nth (sink_steps new_sink reader) (i + 1 - m) y × Delivers s x y

-- and with the type check on, told each frame's own number and the source's type, hands out the
-- load of each frame from m + 2 on before which so many numbered 0 came
abbrev pub TypedAfter : ℕ → Type 0
TypedAfter least =
    (s : Settings) → s.type_check ≡ true → (source : SourceState) (calls : List SourceCall) → SourceRun s source calls
    → (m n : ℕ) (reader : List SinkCall) → Reads s (source_steps source calls) (PassedOn Unharmed source.payload_type) m n new_sink reader
    → (i : ℕ) → m + 2 ≤ i → i ≤ n → least ≤ zeros_before (source_steps source calls) m i
    → (x : SourceStep) × (y : SinkStep) × Nth (source_steps source calls) i x × Nth (sink_steps new_sink reader) (i + 1 - m) y × Hands (load_of x) y

-- After one frame a sink need not hold the count; frame m + 1 need not be delivered; after two
-- frames numbered 0 the type need not be accepted; four wrong bits can give a false count, and with
-- mending on three can.
pub record NoLess : Type 0 where
  pub one_frame : HoldsAfter 0 → ⊥
  pub second_frame : DeliversAfter 1 → ⊥
  pub two_types : TypedAfter 2 → ⊥
  pub one_bit_more : (mending : Bool) → NoFalseCount mending (budget mending + 1) → ⊥
