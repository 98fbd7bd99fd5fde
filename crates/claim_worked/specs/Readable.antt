-- The hypotheses of demand 3 can be met by every source run: any sink can read it from any frame m
-- up to any later frame, told each frame's own number and any expected type. Assumes nothing.
use Rattle.std.specs.Prelude.{List, ℕ, ◌+◌, ◌≤◌, length}
use Rattle.gmp_settings.specs.declared.Settings.{Settings}
use Rattle.gmp_source.specs.declared.SourceState.{SourceState}
use Rattle.gmp_sink.specs.declared.SinkState.{SinkState}
use Rattle.claim_recovery.specs.Runs.{Nth, Bytes, SourceCall, SinkCall, SourceStep, source_steps, frame_of}
use Rattle.claim_recovery.specs.Demand.{SourceRun, Reads, Unharmed, PassedOn}

-- where its frames are bytes
abbrev pub Readable : Type 0
Readable =
    (s : Settings) (source : SourceState) (calls : List SourceCall) → SourceRun s source calls
    → ((i : ℕ) (x : SourceStep) → Nth (source_steps source calls) i x → Bytes (frame_of x))
    → (z : SinkState) (expected m n : ℕ) → 1 ≤ m → m ≤ n + 1 → n ≤ length (source_steps source calls)
    → (reader : List SinkCall) × Reads s (source_steps source calls) (PassedOn Unharmed expected) m n z reader
