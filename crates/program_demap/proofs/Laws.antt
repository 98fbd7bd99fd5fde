-- A frame of 15,240 bytes is never refused at OPU0's size, and what the sink makes of it is what
-- the program goes on with. Assumes nothing.
use mathlib.Core.Path.{◌≡◌, refl, sym, ap, ap₂, ◌∙◌}
use mathlib.Core.List.{List, ◌++◌}
use Prim.Native.Nat.{ℕ}
use native.Mathlib.Omega.{arith}
use lib.ListN.{length, take, drop, set, length-append}
use lib.Seq.{take_at}
use Rattle.io.specs.Counts.{IsPrefixLen}
use Rattle.gmp_refusal.specs.declared.Refusal.{Refusal}
use Rattle.refusals.specs.Table.{Answer}
use Rattle.gmp_settings.specs.declared.Settings.{Settings}
use Rattle.gmp_standing.specs.declared.Standing.{Standing}
use Rattle.gmp_standing.specs.Standing.{Finding, standing_meaning, standing_number}
use Rattle.card_tally.specs.declared.Tally.{Tally}
use Rattle.card_tally.specs.declared.Tallies.{Tallies}
use Rattle.card_tally.specs.Tally.{added}
use Rattle.card_tally.specs.Ports.{new_tallies, tally_of}
use Rattle.card_tally.proofs.Ports.{own_port_only}
use Rattle.gmp_payload_type.specs.declared.Expected.{Expected}
use Rattle.gmp_sink.specs.declared.SinkState.{SinkState}
use Rattle.std.specs.Prelude.{Ok, Err}
use Rattle.gmp_sink.specs.declared.SinkResult.{SinkResult}
use Rattle.gmp_sink.specs.Sink.{sink_refusal}
use Rattle.gmp_sink.proofs.Laws.{answer_accepted, state_accepted, mended_accepted, handed_accepted, out_accepted, never_refused, done_says}
use Rattle.card_promise.specs.Card.{bad_frames, tallies_by, tallies_after, CardPromise}
use Rattle.program_demap.specs.declared.Wanted.{Wanted}
use Rattle.program_demap.specs.declared.Demapper.{Demapper}
use Rattle.program_demap.specs.Frames.{settings_of, expected_of, standing_of, handed_bytes, number_after, Takes}

-- bytes at the start of a buffer, and their number
first_bytes : (bytes rest after : List ℕ) (n : ℕ) → after ≡ bytes ++ rest → n ≡ length bytes → IsPrefixLen n after × (take n after ≡ bytes)
first_bytes bytes rest after n e f =
    let same : take n after ≡ bytes = ap (take n) e ∙ take_at bytes rest n (sym f) in
    let long : length after ≡ length (bytes ++ rest) = ap length e in
    ((omega (arith, long, f, length-append bytes rest), f ∙ sym (ap length same)), same)

-- a demapper by its parts
demapper_of_parts : {x z : SinkState} {y t : Tally} {w v : ℕ} (n : ℕ) → x ≡ z → y ≡ t → w ≡ v
    → ◌≡◌ {A = Demapper} (record { state = x; tally = y; last = w; multiframe = n }) (record { state = z; tally = t; last = v; multiframe = n })
demapper_of_parts {x} {z} {y} {t} {w} {v} n e f g =
    ap₂ (λ (a : SinkState) (b : Tally). record { state = a; tally = b; last = w; multiframe = n }) e f
    ∙ ap (λ (k : ℕ). record { state = z; tally = t; last = k; multiframe = n }) g

module _ (wanted : Wanted) (d : Demapper) (frame out : List ℕ) (size : length frame ≡ 15240) (room : length out ≡ 14410) where
  abbrev s : Settings
  s = settings_of wanted

  abbrev told : Expected
  told = expected_of wanted d

  none_refused : sink_refusal s (length frame) (length out) 1 ≡ 0
  unfolding sink_refusal
  none_refused = rw (size, room)

  -- a card with this tally on port 1
  abbrev card : Tallies
  card = record { ports = set new_tallies.ports 0 d.tally }

  -- and what the frame makes of it
  tallied : tally_of (tallies_after s d.state told frame out 1 card) 1 ≡ added d.tally 1 (bad_frames (standing_of wanted d frame)) (length (handed_bytes wanted d frame))
  unfolding tallies_after
  tallied =
      ap₂ (λ (x : Answer Finding) (l : List ℕ). tally_of (tallies_by x 1 (length l) card) 1) (answer_accepted s d.state frame out 1 none_refused)
      (handed_accepted s d.state frame told out 1 none_refused)
      ∙ own_port_only.own card 1 1 (bad_frames (standing_of wanted d frame)) (length (handed_bytes wanted d frame)) refl refl

  module _ (r : SinkResult) (after : List ℕ) (tallies : Tallies) (p : CardPromise s d.state told frame out 1 card r after tallies) where
    pub not_refused : (x : Refusal) → r.answer ≡ Err x → ⊥
    not_refused = never_refused none_refused p.sink

    pub takes : (x : Standing) → r.answer ≡ Ok x → (w : ℕ) → w ≡ standing_number (standing_meaning x).name
        → (tally : Tally) → tally ≡ tally_of tallies 1
        → Takes wanted d frame
        (record { handed = r.handed; standing = x; mended = r.mended; after = record { state = r.state; tally = tally; last = w; multiframe = number_after d.multiframe } }) after
    takes x e w f tally h =
        let says : standing_meaning x ≡ standing_of wanted d frame = done_says none_refused p.sink x e in
        let n : r.handed ≡ length (handed_bytes wanted d frame) = p.sink.handed_bytes ∙ ap length (handed_accepted s d.state frame told out 1 none_refused) in
        let b =
        first_bytes (handed_bytes wanted d frame) (drop (length (handed_bytes wanted d frame)) out) after r.handed
        (p.sink.out_buffer ∙ out_accepted s d.state frame told out 1 none_refused) n in
        record {
          standing = says;
          mended = p.sink.mended ∙ mended_accepted s d.state frame out 1 none_refused;
          after =
              demapper_of_parts (number_after d.multiframe) (p.sink.state ∙ state_accepted s d.state frame told out 1 none_refused) (h ∙ ap (λ (y : Tallies). tally_of y 1) p.tallies ∙ tallied)
              (f ∙ ap (λ (y : Finding). standing_number y.name) says);
          length_is = n;
          within = b.0;
          bytes = b.1;
        }
