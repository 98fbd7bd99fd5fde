-- Every source run can be read. Assumes nothing.
use mathlib.Core.Path.{◌≡◌, refl, sym, ap, ◌∙◌, subst}
use mathlib.Core.Bool.{Bool, cond}
use mathlib.Core.List.{List, [], ◌∷◌}
use Prim.Native.Nat.{ℕ, zero, suc, ◌+◌, ◌-◌, ◌≤◌, ◌%◌}
use native.Mathlib.Nat.{le_of_suc-le-suc}
use native.Mathlib.Omega.{arith}
use lib.ListN.{length, drop, replicate, length-replicate, length-drop}
use borrow.Author.Tests.{eq-eqb, le-ltb}
use Rattle.gmp_settings.specs.declared.Settings.{Settings}
use Rattle.gmp_settings.specs.Grid.{frame_bytes}
use Rattle.gmp_settings.proofs.Laws.{all_passed, own_lines_decide}
use Rattle.gmp_payload_type.specs.declared.Expected.{Expected}
use Rattle.gmp_source.specs.declared.SourceState.{SourceState}
use Rattle.gmp_source.specs.Source.{source_reasons, source_refusal}
use Rattle.gmp_source.proofs.Laws.{accepted_knows, frame_accepted, length_of_written}
use Rattle.gmp_sink.specs.declared.SinkState.{SinkState}
use Rattle.gmp_sink.specs.Sink.{sink_reasons, sink_refusal}
use Rattle.claim_recovery.specs.Runs.{At, Bytes, SinkCall, SourceStep, SinkStep, sink_after, source_steps, sink_steps, frame_of, number_of}
use Rattle.claim_recovery.specs.Demand.{Unharmed, PassedOn}
use Rattle.claim_recovery.proofs.Lists.{Each, at_drop}
use Rattle.claim_recovery.proofs.Threads.{Link, Chain, chain, chain_drop}
use Rattle.claim_worked.specs.Readable.{Readable}
use Rattle.claim_worked.proofs.Build.{All, reads_by}

-- settings that a source call passed pass in a sink call
sink_takes_lem : (s : Settings) (z : SourceState) (next c b f o : ℕ) → source_refusal s z next c b ≡ 0 → f ≡ frame_bytes s.k → s.hi ≤ o → sink_refusal s f o 1 ≡ 0
unfolding source_refusal sink_refusal
sink_takes_lem s z next c b f o e l h =
    let a = accepted_knows s z next c b e in
    own_lines_decide s (sink_reasons s f o 1) (all_passed s (source_reasons s z next c b) e).0
    ∙ rw (eq-eqb f (frame_bytes s.k) l, le-ltb o s.hi h, a.patterns)

-- the calls that are lent the first j of these frames
abbrev pub FramesBytes : List SourceStep → Type 0
FramesBytes xs = All (λ (x : SourceStep). Bytes (frame_of x)) xs

abbrev room : Settings → List ℕ
room s = replicate s.hi 0

-- told each frame's own number, and one type
abbrev told : ℕ → SourceStep → Expected
told expected x = record { multiframe = number_of x; payload_type = expected }

abbrev pub reader : (s : Settings) (expected : ℕ) (xs : List SourceStep) → FramesBytes xs → ℕ → List SinkCall
reader s expected xs b zero = []
reader s expected [] b (suc j) = []
reader s expected (x ∷ xs) b (suc j) = record { settings = s; expected = told expected x; frame = frame_of x; bytes = b.0; out = room s; port = 1 } ∷ reader s expected xs b.1 j

-- all of them are accepted
pub record Taken (s : Settings) (expected : ℕ) (xs : List SourceStep) (j : ℕ) (ys : List SinkStep) : Type 0 where
  pub shared : All (λ (y : SinkStep). y.call.settings ≡ s) ys
  pub beside : Each (PassedOn Unharmed expected) xs ys
  pub long : length ys ≡ j

-- a sink with the settings of a source takes each of its frames
taken : (s : Settings) (old : ℕ) (x : SourceStep) → Link s old x → sink_refusal s (length (frame_of x)) (length (room s)) 1 ≡ 0
taken s old x link =
    subst (λ (u : Settings). sink_refusal u (length (frame_of x)) (length (room u)) 1 ≡ 0) link.settings
    (sink_takes_lem x.call.settings x.state x.call.next (length x.call.client) (length x.call.buffer) (length (frame_of x)) (length (room x.call.settings))
    link.taken
    (ap length (frame_accepted x.call.settings x.state x.call.next x.call.client x.call.buffer link.taken)
    ∙ length_of_written x.call.settings x.state x.call.next x.call.client)
    (omega (arith, length-replicate {A = ℕ} x.call.settings.hi 0)))

pub all_taken : (s : Settings) (expected old : ℕ) (xs : List SourceStep) (b : FramesBytes xs) (j : ℕ) (z : SinkState) → Chain s old xs → j ≤ length xs
    → Taken s expected xs j (sink_steps z (reader s expected xs b j))
unfolding sink_steps
all_taken s expected old xs b zero z c h = record { shared = tt; beside = tt; long = refl }
all_taken s expected old [] b (suc j) z c h = absurd (omega arith)
all_taken s expected old (x ∷ xs) b (suc j) z c h =
    let y : SinkStep = record { call = record { settings = s; expected = told expected x; frame = frame_of x; bytes = b.0; out = room s; port = 1 }; state = z } in
    let rest = sink_steps (sink_after y) (reader s expected xs b.1 j) in
    let own : number_of x % 256 ≡ number_of x = omega arith in
    let ih = all_taken s expected x.call.next xs b.1 j (sink_after y) c.1 (le_of_suc-le-suc h) in
    subst (λ (d : Bool). Taken s expected (x ∷ xs) (suc j) (cond d (y ∷ rest) rest)) (sym (eq-eqb _ 0 (taken s old x c.0)))
    (record { shared = (refl, ih.shared); beside = (record { lent = refl; number = own; expected = refl }, ih.beside); long = ap suc ih.long })

all_from : {A : Type 0} (P : A → Type 0) (l : List A) → ((i : ℕ) (x : A) → At l i x → P x) → All P l
all_from P [] f = tt
all_from P (x ∷ l) f = (f zero x refl, all_from P l (λ i y p. f (suc i) y p))

pub readable : Readable
readable s source calls run bytes z expected m n one low high =
    let sent = source_steps source calls in
    let c = chain_drop s (m - 1) source.count sent (chain s source calls (λ i x p. run.shared (suc i) x p)) in
    let b = all_from (λ (x : SourceStep). Bytes (frame_of x)) (drop (m - 1) sent) (λ i x p. bytes (suc (m - 1 + i)) x (at_drop sent (m - 1) i (m - 1 + i) x refl p)) in
    let k = all_taken s expected c.0 (drop (m - 1) sent) b (n + 1 - m) z c.1 (rw length-drop (omega arith)) in
    let l = k.long in
    let calls = reader s expected (drop (m - 1) sent) b (n + 1 - m) in
    (calls, reads_by s sent (PassedOn Unharmed expected) m n z calls one k.shared k.beside (omega arith))
