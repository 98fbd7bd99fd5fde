-- How many client bytes a source sends, from what its accepted calls know. Assumes nothing.
use mathlib.Core.Path.{◌≡◌, refl, sym, ap, ap₂, ◌∙◌}
use mathlib.Core.List.{List, [], ◌∷◌}
use Prim.Native.Nat.{ℕ, suc}
use lib.ListN.{length, take}
use Rattle.gmp_settings.specs.declared.Settings.{Settings}
use Rattle.gmp_keeper.specs.Sum.{sum, rounded_total}
use Rattle.gmp_keeper.proofs.Sum.{counts_add_up}
use Rattle.gmp_source.specs.declared.SourceState.{SourceState}
use Rattle.gmp_source.proofs.Laws.{accepted_knows}
use Rattle.claim_recovery.specs.Runs.{SourceCall, SourceStep, source_steps}
use Rattle.claim_recovery.specs.Demand.{SourceRun}
use Rattle.claim_recovery.proofs.Threads.{Chain, chain}
use Rattle.claim_sent.specs.Sent.{load_lengths, next_counts, frame_counts, BytesSent}

-- each load is as long as the count that the call before it took
lengths_are : (s : Settings) (old : ℕ) (xs : List SourceStep) → Chain s old xs → load_lengths xs ≡ take (length xs) (old ∷ next_counts xs)
lengths_are s old [] h = refl
lengths_are s old (x ∷ xs) h =
    let d = x.call in
    let known = accepted_knows d.settings x.state d.next (length d.client) (length d.buffer) h.0.taken in
    ap₂ (λ (n : ℕ) (l : List ℕ). n ∷ l) (known.client ∙ h.0.from) (lengths_are s d.next xs h.1)

as_many : (xs : List SourceStep) → length (load_lengths xs) ≡ length xs
as_many [] = refl
as_many (x ∷ xs) = ap suc (as_many xs)

loads_are : (s : Settings) (source : SourceState) (calls : List SourceCall) → SourceRun s source calls
    → load_lengths (source_steps source calls) ≡ frame_counts source (source_steps source calls)
loads_are s source calls run =
    lengths_are s source.count (source_steps source calls) (chain s source calls (λ i x p. run.shared (suc i) x p))

pub bytes_sent : BytesSent
bytes_sent =
    record {
      loads = loads_are;
      nearest = λ s source calls run p q pos keeper shared fed.
          let sent = source_steps source calls in
          let same = loads_are s source calls run ∙ fed in
          ap sum same
          ∙ counts_add_up.new p q keeper pos shared
          ∙ ap (λ (t : ℕ). rounded_total t p q) (sym (ap length same) ∙ as_many sent);
    }
