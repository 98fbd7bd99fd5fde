-- The source's replies as the plain numbers that C and Rust see. Assumes nothing.
use Rattle.std.specs.Prelude.{List, ℕ, length}
use Rattle.gmp_settings.specs.declared.Settings.{Settings}
use Rattle.refusals.specs.Table.{Answer, accepted, refused}
use Rattle.gmp_source.specs.declared.SourceState.{SourceState}
use Rattle.gmp_source.specs.Source.{source_refusal, source_state}
use Rattle.c_source.specs.declared.SourceReply.{SourceReply}

-- a new source: its state, all zero where there is none
abbrev pub start_reply : Answer SourceState → SourceReply
start_reply (accepted z) = record { refusal = 0; state = z }
start_reply (refused n) = record { refusal = n; state = record { count = 0; multiframe = 0; payload_type = 0 } }

-- a source call, over the lists of its buffers
abbrev pub source_reply : Settings → SourceState → ℕ → List ℕ → List ℕ → SourceReply
source_reply s z next client frame =
    record { refusal = source_refusal s z next (length client) (length frame); state = source_state s z next client frame }
