-- Two frames numbered 0 do not do: a source of type 7 and count 1 writes 258 frames, of which
-- frames 1 and 257 are numbered 0, and a new sink has accepted no type before frame 258. By laws,
-- since to compute so many frames takes long. Assumes nothing.
use mathlib.Core.Path.{◌≡◌, refl, sym, ap, ◌∙◌}
use mathlib.Core.Bool.{Bool, true, false, cond}
use mathlib.Core.List.{List, [], ◌∷◌, ◌++◌}
use Prim.Native.Nat.{ℕ, zero, suc, ◌+◌, ◌≤◌, ◌<◌, ◌%◌}
use native.Mathlib.Omega.{arith}
use lib.Dec.{eqb, lit≤, lit<}
use lib.ListN.{length, replicate}
use Rattle.math.specs.Bits.{bits}
use Rattle.gmp_crc8.specs.Division.{reduce, divide}
use Rattle.gmp_crc8.specs.Check.{remainder}
use Rattle.gmp_settings.specs.declared.Settings.{Settings}
use Rattle.gmp_settings.specs.Settings.{outside}
use Rattle.gmp_payload_type.specs.declared.Types.{Types}
use Rattle.gmp_payload_type.specs.Types.{new_types, judged, is_accepted, gate_open}
use Rattle.gmp_payload_type.proofs.Laws.{open_on, running}
use Rattle.gmp_control.specs.Pattern.{table_of}
use Rattle.gmp_control.specs.Announce.{announced}
use Rattle.gmp_places.specs.Places.{places, placed, tabulate}
use Rattle.gmp_frame.specs.Frame.{row, frame}
use Rattle.gmp_source.specs.declared.SourceState.{SourceState}
use Rattle.gmp_source.specs.Source.{start_refusal, new_source, source_refusal, control_bytes, written, source_state, source_frame}
use Rattle.gmp_sink.specs.Sink.{new_sink, sink_refusal, released, sink_handed}
use Rattle.claim_recovery.specs.Runs.{Bytes, SourceCall, SourceStep, SinkStep, source_steps, sink_steps, sink_end, frame_of, load_of, handed_of}
use Rattle.claim_recovery.specs.Demand.{SourceRun, Unharmed, PassedOn, zeros_before}
use Rattle.claim_recovery.proofs.Bytes.{bytes}
use Rattle.claim_recovery.proofs.Lists.{nth_at, each_both}
use Rattle.claim_recovery.proofs.Threads.{chain, thread}
use Rattle.claim_recovery.proofs.Along.{AsWritten, unharmed}
use Rattle.claim_recovery.proofs.Types.{types_at, one_type, numbered, zeros_of}
use Rattle.claim_worked.specs.Less.{TypedAfter}
use Rattle.claim_worked.specs.Run.{send}
use Rattle.claim_worked.specs.Typed.{checks}
use Rattle.claim_worked.proofs.Build.{All, all_nth, reads_by}
use Rattle.claim_worked.proofs.Readable.{FramesBytes, reader, all_taken}

abbrev steady : ℕ → SourceState
steady a = record { count = 1; multiframe = a; payload_type = 7 }

abbrev again : SourceCall
again = send checks 1 (5 ∷ [])

-- a step of such a source
pub record Steady (x : SourceStep) : Type 0 where
  pub settings : x.call.settings ≡ checks
  pub load : load_of x ≡ 5 ∷ []
  pub bytes : Bytes (frame_of x)

psi_lt : (b : Bool) → cond b 7 0 < 256
psi_lt true = lit< tt
psi_lt false = lit< tt

-- its frame is bytes: the twelve in front of the PSI byte, that one, and the three behind it
abbrev front : List ℕ
front = 0 ∷ 0 ∷ 0 ∷ 0 ∷ 0 ∷ 4 ∷ 0 ∷ 0 ∷ 0 ∷ 52 ∷ 0 ∷ 0 ∷ []

abbrev behind : List ℕ
behind = 0 ∷ 0 ∷ 5 ∷ []

bytes_append : (l l' : List ℕ) → Bytes l → Bytes l' → Bytes (l ++ l')
bytes_append [] l' h h' = h'
bytes_append (b ∷ l) l' h h' = (h.0, bytes_append l l' h.1 h')

one_steady : (a : ℕ) → Steady (record { call = again; state = steady a })
unfolding source_refusal source_state source_frame written control_bytes announced frame row tabulate placed places remainder divide reduce bits outside table_of
one_steady a =
    let b = eqb (a % 256) 0 in
    record {
      settings = refl;
      load = refl;
      bytes = bytes_append front (cond b 7 0 ∷ behind) (bytes front tt) (psi_lt b, bytes behind tt);
    }

all_steady : (n a : ℕ) → All Steady (source_steps (steady a) (replicate n again)) × (length (source_steps (steady a) (replicate n again)) ≡ n)
unfolding source_steps source_refusal source_state outside
all_steady zero a = (tt, refl)
all_steady (suc n) a = let rest = all_steady n ((a % 256 + 1) % 256) in ((one_steady a, rest.0), ap suc rest.1)

all_map : {A : Type 0} (P Q : A → Type 0) → ((x : A) → P x → Q x) → (l : List A) → All P l → All Q l
all_map P Q f [] h = tt
all_map P Q f (x ∷ l) h = (f x h.0, all_map P Q f l h.1)

abbrev calls : List SourceCall
calls = replicate 258 again

run : SourceRun checks (steady 0) calls
unfolding new_source start_refusal outside
run =
    record {
      made_with = checks;
      first = 1;
      payload_type = 7;
      made = refl;
      shared = λ i x p. (all_nth Steady (source_steps (steady 0) calls) (all_steady 258 0).0 i x p).settings;
    }

-- nothing is handed out where the gate is shut
shut : (y : SinkStep) → gate_open y.call.settings.type_check y.state.types y.call.expected ≡ false → handed_of y ≡ []
unfolding sink_handed released
shut y e = rw e (by (eqb (sink_refusal y.call.settings (length y.call.frame) (length y.call.out) y.call.port) 0))
  where
    by : (b : Bool) → cond {A = List ℕ} b [] [] ≡ []
    by true = refl
    by false = refl

-- a new sink that has seen the type twice has accepted none
unaccepted : (k : ℕ) → is_accepted (running 2 new_types 7).accepted k ≡ false
unfolding judged
unaccepted k = refl

pub not_after_two : TypedAfter 2 → ⊥
not_after_two h =
    let sent = source_steps (steady 0) calls in
    let all = all_steady 258 0 in
    let long = all.1 in
    let linked = chain checks (steady 0) calls (λ i x p. run.shared (suc i) x p) in
    let b : FramesBytes sent = all_map Steady (λ (x : SourceStep). Bytes (frame_of x)) (λ x s. s.bytes) sent all.0 in
    let heard = reader checks 7 sent b 258 in
    let taken = all_taken checks 7 1 sent b 258 new_sink linked (omega arith) in
    let l = taken.long in
    let reads = reads_by checks sent (PassedOn Unharmed 7) 1 258 new_sink heard (lit≤ tt) taken.shared taken.beside (omega arith) in
    let zeros = zeros_of 0 257 sent (numbered (steady 0) calls) (omega arith) in
    let w = h checks refl (steady 0) calls run 1 258 heard reads 258 (lit≤ tt) (lit≤ tt) (omega arith) in
    let x = w.0 in
    let y = w.1 in
    let told = thread checks new_sink heard (λ i q p. reads.shared (suc i) q p) in
    let passed = each_both (PassedOn Unharmed 7) (PassedOn Unharmed 7) (PassedOn (AsWritten checks) 7)
    (λ a c p _. record { lent = unharmed checks a c p.lent; number = p.number; expected = p.expected }) sent (sink_steps new_sink heard) taken.beside taken.beside in
    let types = types_at checks refl 7 7 1 sent new_sink (sink_steps new_sink heard) (sink_end new_sink heard) linked told passed (one_type (steady 0) calls) 257 y
    (nth_at (sink_steps new_sink heard) 258 257 y refl w.3) in
    let two : zeros_before sent 1 258 ≡ 2 = omega arith in
    let gate : gate_open y.call.settings.type_check y.state.types y.call.expected ≡ false =
    ap (λ (u : Settings). gate_open u.type_check y.state.types y.call.expected) (reads.shared 258 y w.3)
    ∙ open_on y.state.types y.call.expected
    ∙ ap (λ (t : Types). is_accepted t.accepted y.call.expected.payload_type) (types ∙ ap (λ (n : ℕ). running n new_types 7) two)
    ∙ unaccepted y.call.expected.payload_type in
    let load : load_of x ≡ 5 ∷ [] = (all_nth Steady sent all.0 258 x w.2).load in
    let none : ◌≡◌ {A = List ℕ} [] (5 ∷ []) = sym (shut y gate) ∙ w.4.handed ∙ load in
    omega (arith, ap length none)
