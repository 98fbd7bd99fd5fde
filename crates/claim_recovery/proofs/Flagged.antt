-- Sources do not look at the sink's flags. Assumes nothing.
use mathlib.Core.Path.{◌≡◌, refl, sym, ap, ◌∙◌, subst, subst⁻¹}
use mathlib.Core.Bool.{Bool, true, false, cond}
use mathlib.Core.List.{List, [], ◌∷◌, map}
use Prim.Native.Nat.{ℕ, zero, suc, ◌+◌, ◌-◌, ◌≤◌}
use Rattle.gmp_settings.specs.declared.Settings.{Settings}
use Rattle.gmp_settings.specs.Settings.{outside}
use Rattle.gmp_control.specs.Pattern.{table_of}
use Rattle.gmp_frame.specs.Frame.{control_of, OthersSame}
use Rattle.gmp_source.specs.declared.SourceState.{SourceState}
use Rattle.gmp_source.specs.Source.{source_refusal, control_bytes, written, source_state, source_frame}
use Rattle.claim_recovery.specs.Runs.{At, Nth, SourceCall, SourceStep, SinkStep, source_takes, source_after, source_steps, sink_steps, frame_of}
use Rattle.claim_recovery.specs.Demand.{SourceRun, Unharmed, wrong_control_bits, AtMostWrong, PassedOn}
use Rattle.claim_recovery.specs.Mended.{OneWrong, Flags, with_flags, flagged_call, flagged_step, ReadsAlike, SinksOwn}

same_frame : (b : Flags) (x : SourceStep) → frame_of (flagged_step b x) ≡ frame_of x
unfolding source_frame source_refusal outside written control_bytes table_of
same_frame b x = refl

same_after : (b : Flags) (x : SourceStep) → source_after (flagged_step b x) ≡ source_after x
unfolding source_state source_refusal outside
same_after b x = refl

same_takes : (b : Flags) (x : SourceStep) → source_takes (flagged_step b x) ≡ source_takes x
unfolding source_refusal outside
same_takes b x = refl

map_cond : {A B : Type 0} (f : A → B) (t : Bool) (x : A) (l : List A) → cond t (f x ∷ map f l) (map f l) ≡ map f (cond t (x ∷ l) l)
map_cond f true x l = refl
map_cond f false x l = refl

same_steps : (b : Flags) (z : SourceState) (calls : List SourceCall) → source_steps z (map (flagged_call b) calls) ≡ map (flagged_step b) (source_steps z calls)
unfolding source_steps
same_steps b z [] = refl
same_steps b z (c ∷ cs) =
    let x : SourceStep = record { call = c; state = z } in
    let y : SourceStep = flagged_step b x in
    let steps : SourceState → List SourceStep = λ q. source_steps q (map (flagged_call b) cs) in
    ap (λ (t : Bool). cond t (y ∷ steps (source_after y)) (steps (source_after y))) (same_takes b x)
    ∙ ap (λ (q : SourceState). cond (source_takes x) (y ∷ steps q) (steps q)) (same_after b x)
    ∙ ap (λ (l : List SourceStep). cond (source_takes x) (y ∷ l) l) (same_steps b (source_after x) cs)
    ∙ map_cond (flagged_step b) (source_takes x) x (source_steps (source_after x) cs)

at_map : {A B : Type 0} (f : A → B) (l : List A) (i : ℕ) (y : B) → At (map f l) i y → (x : A) × At l i x × (f x ≡ y)
at_map f [] i y p = absurd p
at_map f (x ∷ l) zero y p = (x, refl, p)
at_map f (x ∷ l) (suc i) y p = at_map f l i y p

map_at : {A B : Type 0} (f : A → B) (l : List A) (i : ℕ) (x : A) → At l i x → At (map f l) i (f x)
map_at f [] i x p = absurd p
map_at f (y ∷ l) zero x p = ap f p
map_at f (y ∷ l) (suc i) x p = map_at f l i x p

map_nth : {A B : Type 0} (f : A → B) (l : List A) (i : ℕ) (x : A) → Nth l i x → Nth (map f l) i (f x)
map_nth f l zero x p = absurd p
map_nth f l (suc i) x p = map_at f l i x p

-- what holds of a frame that is lent holds of it as the other calls write it
module _ (Lent : Settings → SourceStep → SinkStep → Type 0) (moves : (b : Flags) (s : Settings) (x : SourceStep) (y : SinkStep) → Lent s x y → Lent s (flagged_step b x) y) where
  alike : ReadsAlike Lent
  alike b source calls s m n z reader r = record { from = r.from; shared = r.shared; lent = lent; up_to = r.up_to }
    where
      lent : (j : ℕ) (y : SinkStep) → Nth (sink_steps z reader) j y → (x : SourceStep) × Nth (source_steps source (map (flagged_call b) calls)) (m + j - 1) x × Lent s x y
      lent j y p =
          let h = r.lent j y p in (
            flagged_step b h.0,
            subst⁻¹ (λ (l : List SourceStep). Nth l (m + j - 1) (flagged_step b h.0)) (same_steps b source calls)
                (map_nth (flagged_step b) (source_steps source calls) (m + j - 1) h.0 h.1),
            moves b s h.0 y h.2,
          )

few_moves : (most : ℕ) (b : Flags) (s : Settings) (x : SourceStep) (y : SinkStep) → AtMostWrong most s x y → AtMostWrong most s (flagged_step b x) y
few_moves most b s x y h =
    subst⁻¹ (λ (f : List ℕ). wrong_control_bits (control_of s.k f) (control_of s.k y.call.frame) ≤ most) (same_frame b x) h

one_moves : (b : Flags) (s : Settings) (x : SourceStep) (y : SinkStep) → OneWrong s x y → OneWrong s (flagged_step b x) y
one_moves b s x y h =
    record { control = few_moves _ b s x y h.control; others = subst⁻¹ (λ (f : List ℕ). OthersSame s.k y.call.frame f) (same_frame b x) h.others }

pub sinks_own : SinksOwn
sinks_own =
    record {
      run = λ b s source calls run.
          record {
            made_with = run.made_with;
            first = run.first;
            payload_type = run.payload_type;
            made = run.made;
            shared = shared b s source calls run;
          };
      steps = same_steps;
      frame = same_frame;
      unharmed = alike (λ s. Unharmed) (λ b s x y e. e ∙ sym (same_frame b x));
      few_wrong = λ most. alike (AtMostWrong most) (few_moves most);
      one_wrong = alike OneWrong one_moves;
      passed_on = λ expected. alike (λ s. PassedOn Unharmed expected)
          (λ b s x y h. record { lent = h.lent ∙ sym (same_frame b x); number = h.number; expected = h.expected });
      one_wrong_passed_on = λ expected. alike (λ s. PassedOn (OneWrong s) expected)
          (λ b s x y h. record { lent = one_moves b s x y h.lent; number = h.number; expected = h.expected });
    }
  where
    shared : (b : Flags) (s : Settings) (source : SourceState) (calls : List SourceCall) → SourceRun s source calls
        → (i : ℕ) (y : SourceStep) → Nth (source_steps source (map (flagged_call b) calls)) i y → y.call.settings ≡ with_flags s b
    shared b s source calls run zero y p = absurd p
    shared b s source calls run (suc i) y p =
        let q = at_map (flagged_step b) (source_steps source calls) i y (subst (λ (l : List SourceStep). At l i y) (same_steps b source calls) p) in
        sym (ap (λ (x : SourceStep). x.call.settings) q.2) ∙ ap (λ (u : Settings). with_flags u b) (run.shared (suc i) q.0 q.1)
