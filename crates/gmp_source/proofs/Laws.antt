-- What an accepted call of the source knows, and the cases of its definitions. Assumes nothing.
use mathlib.Core.Path.{◌≡◌, refl}
use mathlib.Core.Bool.{true, false, not}
use mathlib.Core.List.{List}
use Prim.Native.Nat.{ℕ, ◌≤◌, ◌<◌}
use native.Mathlib.Omega.{arith}
use lib.Dec.{eqb, lit<}
use lib.ListN.{length}
use borrow.Author.Tests.{eqb-true, not-false, eq-eqb, ne_eqb}
use Rattle.gmp_crc8.specs.Check.{passes}
use Rattle.gmp_crc8.proofs.Laws.{written_passes, remainder_lt}
use Rattle.gmp_settings.specs.declared.Settings.{Settings}
use Rattle.gmp_settings.specs.Grid.{payload_bytes, frame_bytes}
use Rattle.gmp_settings.specs.Settings.{Fit, outside}
use Rattle.gmp_settings.specs.Patterns.{bad_patterns}
use Rattle.refusals.specs.Table.{lowest}
use Rattle.refusals.proofs.Laws.{none_applies, Judged}
use Rattle.gmp_settings.proofs.Laws.{all_passed, settings_fit, inside_window}
use Rattle.gmp_control.specs.Word.{word_bytes, word_by}
use Rattle.gmp_control.specs.Pattern.{table_of}
use Rattle.gmp_control.specs.Announce.{announced}
use Rattle.gmp_control.proofs.Laws.{word_back, word_bytes_lem}
use Rattle.gmp_frame.specs.Frame.{control_of, psi_of, client_bytes}
use Rattle.gmp_frame.proofs.Laws.{control_written, psi_written, client_taken_lem, length_frame}
use Rattle.gmp_source.specs.declared.SourceState.{SourceState}
use Rattle.gmp_source.specs.Source.{state_reasons, start_reasons, start_refusal, source_reasons, source_refusal, NumbersAscend, psi, control_bytes, written, next_state, source_state, source_frame}

pub numbers_ascend : NumbersAscend
unfolding start_refusal source_refusal
numbers_ascend = record { start = λ s first. (refl, refl); call = λ s z next c b. (refl, refl) }

-- an accepted call
pub record Accepted (s : Settings) (z : SourceState) (next clientLength bufferLength : ℕ) : Type 0 where
  pub fit : Fit s
  pub present_inside : outside s z.count ≡ false
  pub next_inside : outside s next ≡ false
  pub client : clientLength ≡ z.count
  pub buffer : bufferLength ≡ frame_bytes s.k
  pub patterns : bad_patterns s ≡ false

pub accepted_knows : (s : Settings) (z : SourceState) (next c b : ℕ) → source_refusal s z next c b ≡ 0 → Accepted s z next c b
unfolding source_refusal
accepted_knows s z next c b e =
    let all = all_passed s (source_reasons s z next c b) e in
    let five = none_applies 5 (outside s z.count) _ (lit< tt) all.1 in
    let six = none_applies 6 (outside s next) _ (lit< tt) five.1 in
    let seven = none_applies 7 (not (eqb c z.count)) _ (lit< tt) six.1 in
    let eight = none_applies 8 (not (eqb b (frame_bytes s.k))) _ (lit< tt) seven.1 in
    let fourteen = none_applies 14 (bad_patterns s) _ (lit< tt) eight.1 in
    record {
      fit = settings_fit s all.0;
      present_inside = five.0;
      next_inside = six.0;
      client = eqb-true _ _ (not-false _ seven.0);
      buffer = eqb-true _ _ (not-false _ eight.0);
      patterns = fourteen.0;
    }

-- its client bytes fit the payload
pub client_fits : (s : Settings) (z : SourceState) (next c b : ℕ) → Accepted s z next c b → c ≤ payload_bytes s.k
client_fits s z next c b a = omega (arith, inside_window s z.count a.present_inside, a.fit.within, a.client)

-- the first count of a new source is inside the window
pub start_inside : (s : Settings) (first : ℕ) → start_refusal s first ≡ 0 → outside s first ≡ false
unfolding start_refusal
start_inside s first e = (none_applies 5 (outside s first) _ (lit< tt) (all_passed s (start_reasons s first) e).1).0

module _ (s : Settings) (z : SourceState) (next : ℕ) (client buffer : List ℕ) where
  -- an accepted call moves the state and writes the frame
  pub state_accepted : source_refusal s z next (length client) (length buffer) ≡ 0 → source_state s z next client buffer ≡ next_state z next
  unfolding source_state
  state_accepted e = simp (eq-eqb _ _ e)

  pub frame_accepted : source_refusal s z next (length client) (length buffer) ≡ 0 → source_frame s z next client buffer ≡ written s z next client
  unfolding source_frame
  frame_accepted e = simp (eq-eqb _ _ e)

  -- a refused one leaves both
  pub state_refused : (source_refusal s z next (length client) (length buffer) ≡ 0 → ⊥) → source_state s z next client buffer ≡ z
  unfolding source_state
  state_refused h = simp (ne_eqb _ _ h)

  pub frame_refused : (source_refusal s z next (length client) (length buffer) ≡ 0 → ⊥) → source_frame s z next client buffer ≡ buffer
  unfolding source_frame
  frame_refused h = simp (ne_eqb _ _ h)

-- the control bytes that a source writes pass the check, carry its word, and are bytes
module _ (s : Settings) (old next : ℕ) where
  pub control_passes : let c = control_bytes s old next in passes c.jc1 c.jc2 c.jc3 ≡ true
  unfolding control_bytes
  control_passes = let w = word_bytes (announced (table_of s) old next) in written_passes w.jc1 w.jc2

  pub control_word : let c = control_bytes s old next in word_by c.jc1 c.jc2 ≡ announced (table_of s) old next
  unfolding control_bytes
  control_word = word_back (table_of s) old next

  pub control_bytes_lt : let c = control_bytes s old next in (c.jc1 < 256) × (c.jc2 < 256) × (c.jc3 < 256)
  unfolding control_bytes
  control_bytes_lt =
      let w = word_bytes (announced (table_of s) old next) in
      let b = word_bytes_lem (table_of s) old next in
      (b.0, b.1, remainder_lt w.jc1 w.jc2)

-- the client bytes of a written frame come out of it again, and it has these control bytes and this
-- PSI byte
pub client_of_written : (s : Settings) (z : SourceState) (next : ℕ) (client : List ℕ) → length client ≤ payload_bytes s.k
    → client_bytes s.k (length client) (written s z next client) ≡ client
unfolding written
client_of_written s z next client h = client_taken_lem s.k client (control_bytes s z.count next) (psi z) h

pub control_of_written : (s : Settings) (z : SourceState) (next : ℕ) (client : List ℕ) → control_of s.k (written s z next client) ≡ control_bytes s z.count next
unfolding written
control_of_written s z next client = control_written s.k client (control_bytes s z.count next) (psi z)

pub psi_of_written : (s : Settings) (z : SourceState) (next : ℕ) (client : List ℕ) → psi_of s.k (written s z next client) ≡ psi z
unfolding written
psi_of_written s z next client = psi_written s.k client (control_bytes s z.count next) (psi z)

pub length_of_written : (s : Settings) (z : SourceState) (next : ℕ) (client : List ℕ) → length (written s z next client) ≡ frame_bytes s.k
unfolding written
length_of_written s z next client = length_frame s.k client (control_bytes s z.count next) (psi z)

-- the judges of a new source and of a call begin with the same lines
pub state_judged : (s : Settings) (count : ℕ) {answer : ℕ} → answer ≡ lowest (state_reasons s count) → Judged answer (state_reasons s count)
state_judged s count e = record { by = e; up = refl }
