-- What a new sink has accepted is the last type that came three times running, and it hands out
-- nothing else. Assumes nothing.
use mathlib.Core.Path.{◌≡◌, refl, sym, ap, ◌∙◌, subst}
use mathlib.Core.Logic.{◌⊎◌, inl, inr}
use mathlib.Core.Bool.{Bool, true, false, true≢false, cond}
use mathlib.Core.List.{List, [], ◌∷◌, ◌++◌}
use Prim.Native.Nat.{ℕ, zero, suc, ◌-◌}
use native.Mathlib.Omega.{arith}
use lib.ListN.{length, take, drop}
use borrow.Author.Tests.{eqb-true, eqb-false}
use Rattle.std.specs.Prelude.{Option, Some, None}
use Rattle.gmp_payload_type.specs.declared.Types.{Types}
use Rattle.gmp_payload_type.specs.Types.{judged, types_after, is_accepted, gate_open}
use Rattle.gmp_payload_type.specs.Claims.{judged_all, last_three}
use Rattle.gmp_payload_type.proofs.Laws.{open_on, three_running}
use Rattle.gmp_sink.specs.declared.SinkState.{SinkState}
use Rattle.gmp_sink.specs.Sink.{new_sink}
use Rattle.gmp_sink.proofs.Laws as sink
use Rattle.claim_recovery.specs.Runs.{At, SinkCall, SinkStep, sink_takes, sink_after, sink_steps}
use Rattle.claim_recovery.specs.Demand.{Hands}
use Rattle.claim_recovery.specs.Swapped.{judges, psi_read, types_read, OnlyExpectedType}

-- one judgement more, where the call judges
read_one : (b : Bool) (ks : List ℕ) (psi : ℕ) → cond b (judged (judged_all ks) psi) (judged_all ks) ≡ judged_all (cond b (psi ∷ ks) ks)
read_one true ks psi = refl
read_one false ks psi = refl

-- after an accepted call the sink remembers what it judged
after_accepted : (x : SinkStep) (ks : List ℕ) → sink_takes x ≡ true → x.state.types ≡ judged_all ks → (sink_after x).types ≡ judged_all (cond (judges x) (psi_read x ∷ ks) ks)
unfolding types_after
after_accepted x ks t e =
    ap (λ (q : SinkState). q.types) (sink.state_accepted x.call.settings x.state x.call.frame x.call.expected x.call.out x.call.port (eqb-true _ 0 t))
    ∙ ap (λ (u : Types). cond (judges x) (judged u (psi_read x)) u) e
    ∙ read_one (judges x) ks (psi_read x)

-- what a sink remembers before its call at place j
types_by : (x : SinkStep) (b : Bool) (rest : List SinkStep) (ks : List ℕ) → sink_takes x ≡ b → x.state.types ≡ judged_all ks
    → ((l : List ℕ) → (sink_after x).types ≡ judged_all l → (j : ℕ) (y : SinkStep) → At rest j y → y.state.types ≡ judged_all (types_read l (take j rest)))
    → (j : ℕ) (y : SinkStep) → At (cond b (x ∷ rest) rest) j y → y.state.types ≡ judged_all (types_read ks (take j (cond b (x ∷ rest) rest)))
types_by x true rest ks t e later zero y p = ap (λ (w : SinkStep). w.state.types) (sym p) ∙ e
types_by x true rest ks t e later (suc j) y p = later (cond (judges x) (psi_read x ∷ ks) ks) (after_accepted x ks t e) j y p
types_by x false rest ks t e later j y p =
    later ks
    (ap (λ (q : SinkState). q.types) (sink.state_refused x.call.settings x.state x.call.frame x.call.expected x.call.out x.call.port (eqb-false _ 0 t)) ∙ e)
    j y p

types_before : (z : SinkState) (calls : List SinkCall) (ks : List ℕ) → z.types ≡ judged_all ks → (j : ℕ) (y : SinkStep) → At (sink_steps z calls) j y
    → y.state.types ≡ judged_all (types_read ks (take j (sink_steps z calls)))
unfolding sink_steps
types_before z [] ks e j y p = absurd p
types_before z (c ∷ cs) ks e j y p =
    let x : SinkStep = record { call = c; state = z } in
    types_by x (sink_takes x) (sink_steps (sink_after x) cs) ks refl e (λ l f i w q. types_before (sink_after x) cs l f i w q) j y p

-- the accepted calls are accepted
taken_by : (x : SinkStep) (b : Bool) (rest : List SinkStep) → sink_takes x ≡ b → ((j : ℕ) (y : SinkStep) → At rest j y → sink_takes y ≡ true)
    → (j : ℕ) (y : SinkStep) → At (cond b (x ∷ rest) rest) j y → sink_takes y ≡ true
taken_by x true rest t later zero y p = subst (λ (w : SinkStep). sink_takes w ≡ true) p t
taken_by x true rest t later (suc j) y p = later j y p
taken_by x false rest t later j y p = later j y p

taken : (z : SinkState) (calls : List SinkCall) (j : ℕ) (y : SinkStep) → At (sink_steps z calls) j y → sink_takes y ≡ true
unfolding sink_steps
taken z [] j y p = absurd p
taken z (c ∷ cs) j y p =
    let x : SinkStep = record { call = c; state = z } in
    taken_by x (sink_takes x) (sink_steps (sink_after x) cs) refl (taken (sink_after x) cs) j y p

-- nothing is handed out where the gate is shut
shut : (y : SinkStep) → sink_takes y ≡ true → gate_open y.call.settings.type_check y.state.types y.call.expected ≡ false → Hands [] y
shut y t e =
    let none = eqb-true _ 0 t in
    let same = sink.released_shut y.call.settings y.state y.call.frame y.call.expected e in
    record {
      handed = sink.handed_accepted y.call.settings y.state y.call.frame y.call.expected y.call.out y.call.port none ∙ same;
      buffer = sink.out_accepted y.call.settings y.state y.call.frame y.call.expected y.call.out y.call.port none
          ∙ ap (λ (l : List ℕ). l ++ drop (length l) y.call.out) same;
    }

is_accepted_lem : (a : Option ℕ) (k : ℕ) → is_accepted a k ≡ true → a ≡ Some k
is_accepted_lem (Some j) k e = ap Some (eqb-true j k e)
is_accepted_lem None k e = absurd (true≢false (sym e))

pub only_expected_type : OnlyExpectedType
only_expected_type calls zero y p on = absurd p
only_expected_type calls (suc i) y p on =
    let e : i ≡ suc i - 1 = omega arith in
    subst (λ (n : ℕ). Hands [] y ⊎ (last_three (types_read [] (take n (sink_steps new_sink calls))) ≡ Some y.call.expected.payload_type)) e
    (by (is_accepted three y.call.expected.payload_type) refl)
  where
    before : List SinkStep
    before = take i (sink_steps new_sink calls)

    three : Option ℕ
    three = last_three (types_read [] before)

    gate : gate_open y.call.settings.type_check y.state.types y.call.expected ≡ is_accepted three y.call.expected.payload_type
    gate =
        ap (λ (b : Bool). gate_open b y.state.types y.call.expected) on
        ∙ open_on y.state.types y.call.expected
        ∙ ap (λ (t : Types). is_accepted t.accepted y.call.expected.payload_type) (types_before new_sink calls [] refl i y p)
        ∙ ap (λ (a : Option ℕ). is_accepted a y.call.expected.payload_type) (three_running.only_three (types_read [] before))

    by : (b : Bool) → is_accepted three y.call.expected.payload_type ≡ b → Hands [] y ⊎ (three ≡ Some y.call.expected.payload_type)
    by true e = inr (is_accepted_lem three y.call.expected.payload_type e)
    by false e = inl (shut y (taken new_sink calls i y p) (gate ∙ e))
