-- Demand 3: from the lists of accepted calls, beside each other, to the frames by their numbers.
-- Assumes nothing.
use mathlib.Core.Path.{◌≡◌, refl, ap, ◌∙◌, subst}
use mathlib.Core.Logic.{◌⊎◌, inl, inr, ⊎_map, ⊎_elim}
use mathlib.Core.Bool.{Bool, true, false}
use mathlib.Core.List.{List, [], ◌∷◌}
use Prim.Native.Nat.{ℕ, zero, suc, ◌+◌, ◌-◌, ◌≤◌, ◌<◌}
use native.Mathlib.Omega.{arith}
use lib.Dec.{eqb}
use lib.ListN.{length, drop, length-drop}
use borrow.Author.Tests.{eq-eqb, ne_eqb}
use Rattle.gmp_crc8.specs.Claims.{budget}
use Rattle.gmp_settings.specs.declared.Settings.{Settings}
use Rattle.gmp_standing.specs.declared.Count.{Count}
use Rattle.gmp_standing.specs.declared.Count.TheVariants.{Known, Unknown}
use Rattle.gmp_control.proofs.Reached.{NoneOr}
use Rattle.std.specs.Prelude.{Option}
use Rattle.gmp_payload_type.specs.declared.Types.{Types}
use Rattle.gmp_payload_type.specs.Types.{is_accepted, gate_open}
use Rattle.gmp_payload_type.proofs.Laws.{open_off, open_on, stays, accepts_third}
use Rattle.gmp_source.specs.declared.SourceState.{SourceState}
use Rattle.gmp_sink.specs.declared.SinkState.{SinkState}
use Rattle.gmp_sink.specs.Sink.{new_sink}
use Rattle.claim_recovery.specs.Runs.{At, Nth, SourceCall, SinkCall, SourceStep, SinkStep, source_steps, sink_steps, sink_end, load_of, count_of}
use Rattle.claim_recovery.specs.Demand.{SourceRun, Reads, Unharmed, AtMostWrong, Hands, Delivers, Recovery, RecoveryAlone, HoldsCount, PassedOn, zeros_before, TypedEach, TypedRecovery, ThreeCome, NoFalseCount, Demand3}
use Rattle.claim_recovery.specs.Mended.{OneWrong, KeepsEach, Held, CostsNothing}
use Rattle.claim_recovery.proofs.Lists.{Each, to_each, each_at, each_both, at_drop, drop_at, nth_at, at_nth, nth_same}
use Rattle.claim_recovery.proofs.Threads.{Chain, chain, chain_drop, Thread, thread}
use Rattle.claim_recovery.proofs.Along.{count_after, AsWritten, unharmed, Kept, Went, in_step, recovers, never_false, Good, all_good}
use Rattle.claim_recovery.proofs.Types.{one_type, type_drop, numbered, numbered_drop, zeros_of, types_at}

-- the last frame read, and the count after it
last_read : (Lent : SourceStep → SinkStep → Type 0) (old : ℕ) (xs : List SourceStep) (ys : List SinkStep) (i : ℕ) → length ys ≡ suc i → Each Lent xs ys
    → (x : SourceStep) × At xs i x × (count_after old xs ys ≡ count_of x)
last_read Lent old xs [] i l r = absurd (omega arith)
last_read Lent old [] (y ∷ ys) i l r = absurd r
last_read Lent old (x ∷ xs) (y ∷ []) zero l r = (x, refl, refl)
last_read Lent old (x ∷ xs) (y ∷ []) (suc i) l r = absurd (omega arith)
last_read Lent old (x ∷ xs) (y ∷ y₂ ∷ ys) zero l r = absurd (omega arith)
last_read Lent old (x ∷ xs) (y ∷ y₂ ∷ ys) (suc i) l r = last_read Lent (count_of x) xs (y₂ ∷ ys) i (omega arith) r.1

module _ (s : Settings) (source : SourceState) (calls : List SourceCall) (run : SourceRun s source calls) where
  abbrev sent : List SourceStep
  sent = source_steps source calls

  -- the frames from m on
  frames : (k : ℕ) → (n : ℕ) × Chain s n (drop k sent)
  frames k = chain_drop s k source.count sent (chain s source calls (λ i x p. run.shared (suc i) x p))

  module _ (Lent : SourceStep → SinkStep → Type 0) (m n : ℕ) (z : SinkState) (reader : List SinkCall) (reads : Reads s sent Lent m n z reader) where
    abbrev heard : List SinkStep
    heard = sink_steps z reader

    told : Thread s z heard (sink_end z reader)
    told = thread s z reader (λ i y p. reads.shared (suc i) y p)

    beside : Each Lent (drop (m - 1) sent) heard
    beside =
        let one = reads.from in
        to_each Lent (drop (m - 1) sent) heard
        (λ i y p. let h = reads.lent (suc i) y p in (h.0, drop_at sent (m - 1) i (m - 1 + i) h.0 refl (nth_at sent (m + suc i - 1) (m - 1 + i) h.0 (omega arith) h.1), h.2))

    -- the last frame read is frame n
    ends : (old : ℕ) → 0 < length heard → (x : SourceStep) × Nth sent n x × (count_after old (drop (m - 1) sent) heard ≡ count_of x)
    ends old h =
        let one = reads.from in
        let up = reads.up_to in
        let l = last_read Lent old (drop (m - 1) sent) heard (length heard - 1) (omega arith) beside in
        (l.0, at_nth sent n (m - 1 + (length heard - 1)) l.0 (omega arith) (at_drop sent (m - 1) (length heard - 1) (m - 1 + (length heard - 1)) l.0 refl l.1), l.2)

    -- what holds of each frame after the first d, and of its call, by the frame's number
    by_number : (R : SourceStep → SinkStep → Type 0) (d : ℕ) → Each R (drop d (drop (m - 1) sent)) (drop d heard)
        → (i : ℕ) → m + d ≤ i → i ≤ n → (x : SourceStep) × (y : SinkStep) × Nth sent i x × Nth heard (i + 1 - m) y × R x y
    by_number R d r i low high =
        let one = reads.from in
        let up = reads.up_to in
        let h = each_at R (drop d (drop (m - 1) sent)) (drop d heard) (i - m - d) (rw length-drop (omega arith)) r in
        let p = at_drop (drop (m - 1) sent) d (i - m - d) (i - m) h.0 (omega arith) h.2 in
        let q = at_drop heard d (i - m - d) (i - m) h.1 (omega arith) h.3 in (
          h.0,
          h.1,
          at_nth sent i (i - 1) h.0 (omega arith) (at_drop sent (m - 1) (i - m) (i - 1) h.0 (omega arith) p),
          at_nth heard (i + 1 - m) (i - m) h.1 (omega arith) q,
          h.4,
        )

    -- A sink in any state from frame m, up to frame n, n at least m + 1, by frames that go for
    -- those that were written.
    module _ (goes : (x : SourceStep) (y : SinkStep) → Lent x y → AsWritten s x y) (far : m + 1 ≤ n) where
      two : 2 ≤ length heard
      two = let up = reads.up_to in omega arith

      recovered : ((sink_end z reader).count ≡ Known (count_after (frames (m - 1)).0 (drop (m - 1) sent) heard)) × Each (Went s Lent) (drop 2 (drop (m - 1) sent)) (drop 2 heard)
      recovered = recovers s Lent goes (frames (m - 1)).0 (drop (m - 1) sent) z heard (sink_end z reader) (frames (m - 1)).1 told beside two

      holds : (x : SourceStep) × Nth sent n x × ((sink_end z reader).count ≡ Known (count_of x))
      holds =
          let w = two in
          let l = ends (frames (m - 1)).0 (omega arith) in
          (l.0, l.1, recovered.0 ∙ ap Known l.2)

-- What is handed out of a frame that is kept: its load where the type is not checked, and never
-- other bytes.
delivers : (s : Settings) (x : SourceStep) (y : SinkStep) → Kept s x y → Delivers s x y
delivers s x y k =
    record {
      standing = k.answers;
      unchecked = λ off. k.opened (ap (λ (b : Bool). gate_open b y.state.types y.call.expected) off ∙ open_off y.state.types y.call.expected);
      no_other = by (gate_open s.type_check y.state.types y.call.expected) refl;
    }
  where
    by : (b : Bool) → gate_open s.type_check y.state.types y.call.expected ≡ b → Hands (load_of x) y ⊎ Hands [] y
    by true e = inl (k.opened e)
    by false e = inr (k.closed e)

recovers_both : Recovery
recovers_both s source calls run m n far from_first reads z from_any reads₂ =
    let one = reads₂.from in
    let a = holds s source calls run Unharmed 1 n new_sink from_first reads (unharmed s) (omega arith) in
    let b = holds s source calls run Unharmed m n z from_any reads₂ (unharmed s) far in
    let e = nth_same (source_steps source calls) n b.0 a.0 b.1 a.1 in
    record {
      hold = (a.0, a.1, a.2, b.2 ∙ ap (λ (x : SourceStep). Known (count_of x)) e);
      deliver = λ i low high.
          let d = by_number s source calls run Unharmed 1 n new_sink from_first reads (Went s Unharmed) 2 (recovered s source calls run Unharmed 1 n new_sink from_first reads (unharmed s) (omega arith)).1 i (omega arith) high in
          let f = by_number s source calls run Unharmed m n z from_any reads₂ (Went s Unharmed) 2 (recovered s source calls run Unharmed m n z from_any reads₂ (unharmed s) far).1 i low high in
          let g = nth_same (source_steps source calls) i f.0 d.0 f.2 d.2 in
          let k : i + 1 - 1 ≡ i = omega arith in (
            d.0,
            d.1,
            f.1,
            d.2,
            subst (λ (j : ℕ). Nth (sink_steps new_sink from_first) j d.1) k d.3,
            f.3,
            delivers s d.0 d.1 d.4.0,
            subst (λ (x : SourceStep). Delivers s x f.1) g (delivers s f.0 f.1 f.4.0),
          );
    }

pub recovers_alone : RecoveryAlone
recovers_alone s source calls run m n z reader far reads =
    record {
      hold = holds s source calls run Unharmed m n z reader reads (unharmed s) far;
      deliver = λ i low high.
          let f = by_number s source calls run Unharmed m n z reader reads (Went s Unharmed) 2 (recovered s source calls run Unharmed m n z reader reads (unharmed s) far).1 i low high in
          (f.0, f.1, f.2, f.3, delivers s f.0 f.1 f.4.0);
    }

-- With the type check on: frames that go for those that were written, each told by its own number
-- and with one expected type. Where the type came, the gate goes by the source's.
module _ (s : Settings) (on : s.type_check ≡ true) (source : SourceState) (calls : List SourceCall) (run : SourceRun s source calls) (Lent : SourceStep → SinkStep → Type 0)
    (expected m n : ℕ) (z : SinkState) (reader : List SinkCall) (reads : Reads s (source_steps source calls) (PassedOn Lent expected) m n z reader)
    (passed : Each (PassedOn (AsWritten s) expected) (drop (m - 1) (source_steps source calls)) (sink_steps z reader)) where
  abbrev is : ℕ
  is = source.payload_type

  typed_by : (first : ℕ) → m ≤ first
      → ((i : ℕ) → first ≤ i → i ≤ n → (x : SourceStep) × (y : SinkStep) × Nth (source_steps source calls) i x × Nth (sink_steps z reader) (i + 1 - m) y × Kept s x y)
      → TypedEach source (source_steps source calls) expected m first n z reader
  typed_by first late keeps i low high came =
      let all = source_steps source calls in
      let one = reads.from in
      let k = keeps i low high in
      let y = k.1 in
      let types = types_at s on is expected (frames s source calls run (m - 1)).0 (drop (m - 1) all) z (sink_steps z reader) (sink_end z reader)
      (frames s source calls run (m - 1)).1 (told s source calls run (PassedOn Lent expected) m n z reader reads) passed
      (type_drop is (m - 1) all (one_type source calls)) (i - m) y (nth_at (sink_steps z reader) (i + 1 - m) (i - m) y (omega arith) k.3) in
      let accepted = ⊎_elim (stays (zeros_before all m i) z.types is) (accepts_third (zeros_before all m i) z.types is) came in
      let gate : gate_open s.type_check y.state.types y.call.expected ≡ eqb is expected =
      ap (λ (b : Bool). gate_open b y.state.types y.call.expected) on
      ∙ open_on y.state.types y.call.expected
      ∙ ap (λ (t : Types). is_accepted t.accepted y.call.expected.payload_type) types
      ∙ ap (λ (a : Option ℕ). is_accepted a y.call.expected.payload_type) accepted
      ∙ ap (eqb is) (reads.lent (i + 1 - m) y k.3).2.expected in
      record {
        frame = k.0;
        call = y;
        sent_as = k.2;
        read_by = k.3;
        same = λ e. k.4.opened (gate ∙ eq-eqb _ _ e);
        other = λ ne. k.4.closed (gate ∙ ne_eqb _ _ ne);
      }

-- Unharmed frames are such.
typed_recovers : TypedRecovery
typed_recovers s on source calls run expected m n z reader reads =
    record {
      hold = λ far. holds s source calls run Lent m n z reader reads goes far;
      bytes = typed_by s on source calls run Unharmed expected m n z reader reads passed (m + 2) (omega arith) kept;
    }
  where
    Lent : SourceStep → SinkStep → Type 0
    Lent = PassedOn Unharmed expected

    goes : (x : SourceStep) (y : SinkStep) → Lent x y → AsWritten s x y
    goes x y h = unharmed s x y h.lent

    kept : (i : ℕ) → m + 2 ≤ i → i ≤ n → (x : SourceStep) × (y : SinkStep) × Nth (source_steps source calls) i x × Nth (sink_steps z reader) (i + 1 - m) y × Kept s x y
    kept i low high =
        let h = by_number s source calls run Lent m n z reader reads (Went s Lent) 2 (recovered s source calls run Lent m n z reader reads goes (omega arith)).1 i low high in
        (h.0, h.1, h.2, h.3, h.4.0)

    passed : Each (PassedOn (AsWritten s) expected) (drop (m - 1) (source_steps source calls)) (sink_steps z reader)
    passed =
        let r = beside s source calls run Lent m n z reader reads in
        each_both Lent Lent (PassedOn (AsWritten s) expected) (λ x y h _. record { lent = goes x y h; number = h.number; expected = h.expected })
        (drop (m - 1) (source_steps source calls)) (sink_steps z reader) r r

-- 768 frames are three rounds of the multiframe number.
pub three_come : ThreeCome
three_come s source calls run m i one low high =
    let all = source_steps source calls in
    let rest : length (drop (m - 1) all) ≡ length all - (m - 1) = rw length-drop in
    let z = zeros_of (source.multiframe + (m - 1)) (i - m) (drop (m - 1) all) (numbered_drop source.multiframe (m - 1) all (numbered source calls)) (omega arith) in
    omega arith

none_or : (c : Count) (n : ℕ) → NoneOr (λ (m : ℕ). m ≡ n) c → (c ≡ Unknown) ⊎ (c ≡ Known n)
none_or (Known m) n h = inr (ap Known h)
none_or Unknown n h = inl refl

-- The second claim, over the budget of the check.
few_wrong_bits : (mending : Bool) → NoFalseCount mending (budget mending)
few_wrong_bits mending s same source calls run m n reader reads = record { count = by (sink_steps new_sink reader) refl; none = unread }
  where
    old : ℕ
    old = (frames s source calls run (m - 1)).0

    end : SinkState
    end = sink_end new_sink reader

    heard_all : Thread s new_sink (sink_steps new_sink reader) end
    heard_all = told s source calls run (AtMostWrong (budget mending) s) m n new_sink reader reads

    safe : NoneOr (λ (c : ℕ). c ≡ count_after old (drop (m - 1) (source_steps source calls)) (sink_steps new_sink reader)) end.count
    safe =
        never_false s mending same old (drop (m - 1) (source_steps source calls)) (sink_steps new_sink reader) end (frames s source calls run (m - 1)).1
        heard_all (beside s source calls run (AtMostWrong (budget mending) s) m n new_sink reader reads)

    unread : sink_steps new_sink reader ≡ [] → end.count ≡ Unknown
    unread e = ap (λ (q : SinkState). q.count) (subst (λ (ys : List SinkStep). Thread s new_sink ys end) e heard_all)

    by : (ys : List SinkStep) → sink_steps new_sink reader ≡ ys
        → (end.count ≡ Unknown) ⊎ ((x : SourceStep) × Nth (source_steps source calls) n x × (end.count ≡ Known (count_of x)))
    by [] e = inl (unread e)
    by (y ∷ ys) e =
        let l : length (sink_steps new_sink reader) ≡ suc (length ys) = ap length e in
        let last = ends s source calls run (AtMostWrong (budget mending) s) m n new_sink reader reads old (omega arith) in
        ⊎_map (λ c. c) (λ c. (last.0, last.1, c ∙ ap Known last.2)) (none_or end.count _ safe)

pub demand : Demand3
demand = record { recovery = recovers_both; typed_recovery = typed_recovers; no_false_count = few_wrong_bits }

-- The third claim: with mending on, frames with at most one wrong control bit go for those that
-- were written.
module _ (s : Settings) (on : s.mending ≡ true) (source : SourceState) (calls : List SourceCall) (run : SourceRun s source calls)
    (m n : ℕ) (z : SinkState) (reader : List SinkCall) (reads : Reads s (source_steps source calls) (OneWrong s) m n z reader) where
  abbrev all : List SourceStep
  all = source_steps source calls

  -- the count that frame m begins with
  abbrev begun : ℕ
  begun = (frames s source calls run (m - 1)).0

  chained : Chain s begun (drop (m - 1) all)
  chained = (frames s source calls run (m - 1)).1

  threaded : Thread s z (sink_steps z reader) (sink_end z reader)
  threaded = told s source calls run (OneWrong s) m n z reader reads

  goods : Each (Good s) (drop (m - 1) all) (sink_steps z reader)
  goods =
      all_good s on begun (drop (m - 1) all) z (sink_steps z reader) (sink_end z reader) chained threaded (beside s source calls run (OneWrong s) m n z reader reads)

  goes_good : (x : SourceStep) (y : SinkStep) → Good s x y → AsWritten s x y
  goes_good x y g = g.goes

  -- each frame after the first d is kept
  keeps : (d : ℕ) → Each (Went s (Good s)) (drop d (drop (m - 1) all)) (drop d (sink_steps z reader)) → KeepsEach s all m (m + d) n z reader
  keeps d r i low high =
      let h = by_number s source calls run (OneWrong s) m n z reader reads (Went s (Good s)) d r i low high in
      (h.0, h.1, h.2, h.3, record { delivers = delivers s h.0 h.1 h.4.0; holds = h.4.1; told = h.4.2.told })

  -- the count of the last frame read
  last : 0 < length (sink_steps z reader) → (sink_end z reader).count ≡ Known (count_after begun (drop (m - 1) all) (sink_steps z reader)) → HoldsCount all n z reader
  last h e =
      let l = ends s source calls run (OneWrong s) m n z reader reads begun h in
      (l.0, l.1, e ∙ ap Known l.2)

  -- it is the one that the sink holds
  held_by : (xs : List SourceStep) (ys : List SinkStep) → Chain s begun xs → Each (Good s) xs ys → 0 < length ys → ((x : SourceStep) → At xs 0 x → z.count ≡ Known x.state.count)
      → z.count ≡ Known begun
  held_by xs [] c r l h = absurd (omega arith)
  held_by [] (y ∷ ys) c r l h = absurd r
  held_by (x ∷ xs) (y ∷ ys) c r l h = h x refl ∙ ap Known c.0.from

  module _ (held : Held all m z) where
    along : m ≤ n → ((sink_end z reader).count ≡ Known (count_after begun (drop (m - 1) all) (sink_steps z reader))) × Each (Went s (Good s)) (drop (m - 1) all) (sink_steps z reader)
    along l =
        let one = reads.from in
        let up = reads.up_to in
        in_step s (Good s) goes_good begun (drop (m - 1) all) z (sink_steps z reader) (sink_end z reader) chained threaded goods
        (held_by (drop (m - 1) all) (sink_steps z reader) chained goods (omega arith)
        (λ x p. held x (at_nth all m (m - 1) x (omega arith) (at_drop all (m - 1) 0 (m - 1) x (omega arith) p))))

    holding_by : KeepsEach s all m m n z reader × (m ≤ n → HoldsCount all n z reader)
    holding_by = (λ i low high. keeps 0 (along (omega arith)).1 i (omega arith) high, λ l. let up = reads.up_to in last (omega arith) (along l).0)

  found : m + 1 ≤ n → ((sink_end z reader).count ≡ Known (count_after begun (drop (m - 1) all) (sink_steps z reader)))
      × Each (Went s (Good s)) (drop 2 (drop (m - 1) all)) (drop 2 (sink_steps z reader))
  found far =
      let up = reads.up_to in
      recovers s (Good s) goes_good begun (drop (m - 1) all) z (sink_steps z reader) (sink_end z reader) chained threaded goods (omega arith)

  hunting_by : KeepsEach s all m (m + 2) n z reader × (m + 1 ≤ n → HoldsCount all n z reader)
  hunting_by = (λ i low high. keeps 2 (found (omega arith)).1 i low high, λ l. let up = reads.up_to in last (omega arith) (found l).0)

-- And with the type check on.
module _ (s : Settings) (mends : s.mending ≡ true) (on : s.type_check ≡ true) (source : SourceState) (calls : List SourceCall) (run : SourceRun s source calls)
    (expected m n : ℕ) (z : SinkState) (reader : List SinkCall) (reads : Reads s (source_steps source calls) (PassedOn (OneWrong s) expected) m n z reader) where
  plain : Reads s (source_steps source calls) (OneWrong s) m n z reader
  plain =
      record {
        from = reads.from;
        shared = reads.shared;
        lent = λ j y p. let h = reads.lent j y p in (h.0, h.1, h.2.lent);
        up_to = reads.up_to;
      }

  passed : Each (PassedOn (AsWritten s) expected) (drop (m - 1) (source_steps source calls)) (sink_steps z reader)
  passed =
      each_both (Good s) (PassedOn (OneWrong s) expected) (PassedOn (AsWritten s) expected) (λ x y g h. record { lent = g.goes; number = h.number; expected = h.expected })
      (drop (m - 1) (source_steps source calls)) (sink_steps z reader) (goods s mends source calls run m n z reader plain)
      (beside s source calls run (PassedOn (OneWrong s) expected) m n z reader reads)

  -- each frame after the first d, where it went
  typed_after : (d : ℕ) → ((i : ℕ) → m + d ≤ i → i ≤ n → Each (Went s (Good s)) (drop d (drop (m - 1) (source_steps source calls))) (drop d (sink_steps z reader)))
      → TypedEach source (source_steps source calls) expected m (m + d) n z reader
  typed_after d went =
      typed_by s on source calls run (OneWrong s) expected m n z reader reads passed (m + d) (omega arith)
      (λ i low high.
      let h = by_number s source calls run (OneWrong s) m n z reader plain (Went s (Good s)) d (went i low high) i low high in
      (h.0, h.1, h.2, h.3, h.4.0))

  typed_holding : Held (source_steps source calls) m z → TypedEach source (source_steps source calls) expected m m n z reader
  typed_holding held i low high = typed_after 0 (λ j l h. (along s mends source calls run m n z reader plain held (omega arith)).1) i (omega arith) high

  typed_hunting : TypedEach source (source_steps source calls) expected m (m + 2) n z reader
  typed_hunting = typed_after 2 (λ j l h. (found s mends source calls run m n z reader plain (omega arith)).1)

pub costs_nothing : CostsNothing
costs_nothing =
    record {
      holding = λ s on source calls run m n z held reader reads. holding_by s on source calls run m n z reader reads held;
      hunting = λ s on source calls run m n z reader reads. hunting_by s on source calls run m n z reader reads;
      typed_holding = λ s mends on source calls run expected m n z held reader reads. typed_holding s mends on source calls run expected m n z reader reads held;
      typed_hunting = λ s mends on source calls run expected m n z reader reads. typed_hunting s mends on source calls run expected m n z reader reads;
    }
