-- How many client bytes the frames of a source carry, and how many those of one that a rate keeper
-- feeds (02, P7). Assumes nothing.
use Rattle.std.specs.Prelude.{◌≡◌, List, [], ◌∷◌, ℕ, ◌<◌, length, take}
use Rattle.gmp_settings.specs.declared.Settings.{Settings}
use Rattle.gmp_keeper.specs.Keeper.{first_remainder}
use Rattle.gmp_keeper.specs.Sum.{KeeperCall, SharedRate, counts_from, sum, rounded_total}
use Rattle.gmp_source.specs.declared.SourceState.{SourceState}
use Rattle.claim_recovery.specs.Runs.{SourceCall, SourceStep, source_steps, load_of, count_of}
use Rattle.claim_recovery.specs.Demand.{SourceRun}

-- the lengths of the loads, and the next counts that the calls took
abbrev pub load_lengths : List SourceStep → List ℕ
load_lengths [] = []
load_lengths (x ∷ xs) = length (load_of x) ∷ load_lengths xs

abbrev pub next_counts : List SourceStep → List ℕ
next_counts [] = []
next_counts (x ∷ xs) = count_of x ∷ next_counts xs

-- the counts of the frames: that which the source was made with, and then those that were announced
abbrev pub frame_counts : SourceState → List SourceStep → List ℕ
frame_counts source sent = take (length sent) (source.count ∷ next_counts sent)

pub record BytesSent : Type 0 where
  -- each frame carries as many client bytes as its count says
  pub loads : (s : Settings) (source : SourceState) (calls : List SourceCall) → SourceRun s source calls
      → load_lengths (source_steps source calls) ≡ frame_counts source (source_steps source calls)
  -- if those are the counts of a new keeper at the rate p / q, its first t frames carry the rounded
  -- total
  pub nearest : (s : Settings) (source : SourceState) (calls : List SourceCall) → SourceRun s source calls
      → (p q : ℕ) → 0 < q → (keeper : List KeeperCall) → SharedRate p q (first_remainder q) keeper
      → frame_counts source (source_steps source calls) ≡ counts_from (first_remainder q) keeper
      → sum (load_lengths (source_steps source calls)) ≡ rounded_total (length (source_steps source calls)) p q
