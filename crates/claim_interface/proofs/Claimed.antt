-- What a caller of the C interface sees is what the claims speak of. Assumes nothing.
use Rattle.claim_interface.specs.Observed.{AsClaimed}
use Rattle.claim_interface.proofs.Sources as sources
use Rattle.claim_interface.proofs.Sinks as sinks
use Rattle.claim_interface.proofs.Keepers as keepers

pub as_claimed : AsClaimed
as_claimed =
    record {
      runs = record { source = sources.source_runs; sink = sinks.sink_runs; keeper = keepers.keeper_runs };
      source = sources.source_is;
      refusal = sources.refusal_is;
      frame = λ x. x.frame_kept;
      sink = sinks.sink_is;
      end = sinks.end_is;
      answer = sinks.answer_is;
      mended = sinks.mended_is;
      handed = sinks.handed_is;
      out = λ y. y.kept.out_buffer;
      tallies = sinks.tallies_are;
      counts = keepers.counts_are;
      nearest = keepers.nearest_is;
    }
