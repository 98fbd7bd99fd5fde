-- A mapper that the keeper lets begin goes on for ever: neither the keeper nor the source refuses a
-- call. Assumes nothing.
use mathlib.Core.Path.{◌≡◌, refl, sym, ap, ap₂, ◌∙◌}
use mathlib.Core.Bool.{Bool, true, false, not, cond}
use mathlib.Core.List.{List}
use Prim.Native.Nat.{ℕ, ◌+◌, ◌<◌}
use native.Mathlib.Nat.{mod-lt}
use native.Mathlib.Omega.{arith}
use lib.Dec.{eqb, lit<}
use lib.ListN.{length}
use borrow.Author.Tests.{eqb-true, eq-eqb, lt-leb}
use Rattle.gmp_settings.specs.declared.Settings.{Settings}
use Rattle.gmp_refusal.specs.declared.Refusal.{Refusal}
use Rattle.refusals.specs.Table.{accepted, refused, answer_by}
use Rattle.gmp_refusal.specs.Refusal.{refusal_number}
use Rattle.gmp_settings.specs.Settings.{opu0, outside}
use Rattle.refusals.proofs.Laws.{none_applies}
use Rattle.gmp_settings.proofs.Laws.{all_passed}
use Rattle.gmp_keeper.specs.declared.KeeperResult.{KeeperResult}
use Rattle.std.specs.Prelude.{Result, Ok, Err}
use Rattle.gmp_keeper.specs.Keeper.{bad_divisor, bad_rate, bad_remainder, keeper_reasons, keeper_refusal, Kept, answer_meaning, result_meaning, keeper_call, first_remainder}
use Rattle.gmp_keeper.proofs.Laws.{accepted_knows, count_inside, call_accepted}
use Rattle.gmp_source.specs.declared.SourceState.{SourceState}
use Rattle.gmp_source.specs.declared.SourceResult.{SourceResult}
use Rattle.gmp_source.specs.Source.{start_refusal, start_state, new_source, start_meaning, source_refusal, next_state, source_state, source_frame, written, SourcePromise}
use Rattle.gmp_source.proofs.Laws.{state_accepted, frame_accepted}
use Rattle.program_map.specs.declared.Rate.{Rate}
use Rattle.program_map.specs.declared.Mapper.{Mapper}
use Rattle.program_map.specs.Frames.{count_from, kept_from, refusal_from, new_mapper, start_answer, Ready, Maps}

-- tables to which no line applies
three_pass : (a b c : Bool) → a ≡ false → b ≡ false → c ≡ false → ◌≡◌ {A = ℕ} (cond a 3 (cond b 4 (cond c 5 0))) 0
three_pass a b c e f g = rw (e, f, g)

four_pass : (a b c d : Bool) → a ≡ false → b ≡ false → c ≡ true → d ≡ true
    → ◌≡◌ {A = ℕ} (cond a 5 (cond b 6 (cond (not c) 7 (cond (not d) 8 0)))) 0
four_pass a b c d e f g h = rw (e, f, g, h)

one_passes : (a : Bool) → a ≡ false → ◌≡◌ {A = ℕ} (cond a 5 0) 0
one_passes a e = rw e

-- a keeper that accepts one remainder accepts every one below q
any_remainder : (a : Rate) (r t : ℕ) → refusal_from a r ≡ 0 → t < a.q → refusal_from a t ≡ 0
unfolding keeper_refusal
any_remainder a r t e h =
    let own = (all_passed opu0 (keeper_reasons opu0 a.p a.q r) e).1 in
    let three = none_applies 3 (bad_divisor a.q) _ (lit< tt) own in
    let four = none_applies 4 (bad_rate opu0 a.p a.q) _ (lit< tt) three.1 in
    three_pass (bad_divisor a.q) (bad_rate opu0 a.p a.q) (bad_remainder a.q t) three.0 four.0 (lt-leb _ _ h)

-- so a mapper goes on from what an accepting keeper gives
pub goes_on : (a : Rate) (r : ℕ) (m : Mapper) → refusal_from a r ≡ 0 → m.source.count ≡ count_from a r → m.remainder ≡ kept_from a r → Ready a m
goes_on a r m e count kept =
    let k = accepted_knows opu0 a.p a.q r e in
    record {
      keeper = ap (refusal_from a) kept ∙ any_remainder a r (kept_from a r) e (mod-lt (r + a.p) k.positive);
      count = ap (outside opu0) count ∙ count_inside opu0 a.p a.q r k;
    }

-- what an answer by a number tells of the number
by_number : {A : Type 0} (n : ℕ) (x y : A) → accepted x ≡ answer_by n y → (n ≡ 0) × (x ≡ y)
by_number n x y e = by (eqb n 0) refl e
  where
    by : (b : Bool) → eqb n 0 ≡ b → accepted x ≡ cond b (accepted y) (refused n) → (n ≡ 0) × (x ≡ y)
    by true t e' = let same : x ≡ y = cc in (eqb-true n 0 t, same)
    by false t e' = let z : ◌≡◌ {A = ℕ} 0 1 = cc in absurd (omega arith)

refused_by_number : {A B : Type 0} (n k : ℕ) (y : A) (z : B) → refused k ≡ answer_by n y → refused k ≡ answer_by n z
refused_by_number n k y z e = by (eqb n 0) e
  where
    by : (b : Bool) → refused k ≡ cond b (accepted y) (refused n) → refused k ≡ cond b (accepted z) (refused n)
    by true e' = let o : ◌≡◌ {A = ℕ} 0 1 = cc in absurd (omega arith)
    by false e' = let same : k ≡ n = cc in ap refused same

module _ (a : Rate) (s : Settings) (same : s ≡ opu0) (r : ℕ) (k : KeeperResult) (promise : result_meaning k ≡ keeper_call s a.p a.q r) where
  -- the keeper's answer, by the number of its refusal
  answers : answer_meaning k.answer ≡ answer_by (refusal_from a r) (count_from a r)
  unfolding keeper_call
  answers = ap (λ (x : Kept). x.answer) promise ∙ ap (λ (x : Settings). (keeper_call x a.p a.q r).answer) same

  -- where it gives a count, that is the count, and the remainder is kept
  gives : (n : ℕ) → k.answer ≡ Ok n → (refusal_from a r ≡ 0) × (n ≡ count_from a r)
  gives n e = by_number (refusal_from a r) n (count_from a r) (sym (ap answer_meaning e) ∙ answers)

  keeps : refusal_from a r ≡ 0 → k.remainder ≡ kept_from a r
  keeps z =
      ap (λ (x : Kept). x.remainder) promise ∙ ap (λ (x : Settings). (keeper_call x a.p a.q r).remainder) same
      ∙ ap (λ (x : Kept). x.remainder) (call_accepted opu0 a.p a.q r z)

  turned_back : (x : Refusal) → k.answer ≡ Err x → refused (refusal_number x) ≡ answer_by (refusal_from a r) (count_from a r)
  turned_back x e = sym (ap answer_meaning e) ∙ answers

  pub never_refused : (x : Refusal) → refusal_from a r ≡ 0 → k.answer ≡ Err x → ⊥
  never_refused x z e =
      let o : refused (refusal_number x) ≡ answer_by 0 (count_from a r) = turned_back x e ∙ ap (λ (n : ℕ). answer_by n (count_from a r)) z in
      let zero : ◌≡◌ {A = ℕ} 0 1 = cc in
      omega arith

-- the source accepts a mapper's call
source_accepts : (z : SourceState) (n c b : ℕ) → outside opu0 z.count ≡ false → outside opu0 n ≡ false → c ≡ z.count → b ≡ 15240
    → source_refusal opu0 z n c b ≡ 0
unfolding source_refusal
source_accepts z n c b e f g h = four_pass (outside opu0 z.count) (outside opu0 n) (eqb c z.count) (eqb b 15240) e f (eq-eqb _ _ g) (eq-eqb _ _ h)

new_accepted : (n : ℕ) → outside opu0 n ≡ false → new_source opu0 n 7 ≡ accepted (start_state n 7)
unfolding new_source start_refusal
new_accepted n e = ap (λ (i : ℕ). answer_by i (start_state n 7)) (one_passes (outside opu0 n) e)

-- what the code of `make_frame` comes to
module _ (a : Rate) (m : Mapper) (ready : Ready a m) (load buffer : List ℕ) (full : length load ≡ m.source.count) (size : length buffer ≡ 15240) where
  pub makes : (s : Settings) → s ≡ opu0 → (k : KeeperResult) → result_meaning k ≡ keeper_call s a.p a.q m.remainder → (n : ℕ) → k.answer ≡ Ok n
      → (t : Settings) → t ≡ opu0 → (x : SourceResult) (after : List ℕ) → SourcePromise t m.source n load buffer x after
      → Maps a m load (record { source = x.state; remainder = k.remainder }) after
  makes s same k promise n e t same' x after p =
      let g = gives a s same m.remainder k promise n e in
      let kept = keeps a s same m.remainder k promise ready.keeper in
      let in_window = count_inside opu0 a.p a.q m.remainder (accepted_knows opu0 a.p a.q m.remainder ready.keeper) in
      let ok = source_accepts m.source (count_from a m.remainder) (length load) (length buffer) ready.count in_window full size in
      let state : x.state ≡ next_state m.source (count_from a m.remainder) =
      p.state ∙ ap₂ (λ (y : Settings) (i : ℕ). source_state y m.source i load buffer) same' g.1
      ∙ state_accepted opu0 m.source (count_from a m.remainder) load buffer ok in
      let frame : after ≡ written opu0 m.source (count_from a m.remainder) load =
      p.frame_buffer ∙ ap₂ (λ (y : Settings) (i : ℕ). source_frame y m.source i load buffer) same' g.1
      ∙ frame_accepted opu0 m.source (count_from a m.remainder) load buffer ok in
      record {
        mapper = ap₂ (λ (y : SourceState) (i : ℕ). record { source = y; remainder = i }) state kept;
        ready = goes_on a m.remainder _ ready.keeper (ap (λ (y : SourceState). y.count) state) kept;
        frame_bytes = frame;
      }

-- what the code of `new_mapper` comes to
module _ (a : Rate) (s : Settings) (same : s ≡ opu0) (r : ℕ) (first : r ≡ first_remainder a.q) (k : KeeperResult)
    (promise : result_meaning k ≡ keeper_call s a.p a.q r) where
  start_by : start_answer a ≡ answer_by (refusal_from a r) (record { source = start_state (count_from a r) 7; remainder = kept_from a r })
  unfolding start_answer
  start_by = ap (λ (i : ℕ). answer_by (refusal_from a i) (record { source = start_state (count_from a i) 7; remainder = kept_from a i })) (sym first)

  begun : (z : SourceState) (t : ℕ) → z ≡ start_state (count_from a r) 7 → refusal_from a r ≡ 0 → t ≡ kept_from a r
      → accepted (record { source = z; remainder = t }) ≡ start_answer a
  begun z t e zero f =
      ap₂ (λ (y : SourceState) (i : ℕ). accepted (record { source = y; remainder = i })) e f
      ∙ sym (ap (λ (i : ℕ). answer_by i (record { source = start_state (count_from a r) 7; remainder = kept_from a r })) zero) ∙ sym start_by

  pub start_refused : (x : Refusal) → k.answer ≡ Err x → refused (refusal_number x) ≡ start_answer a
  start_refused x e = refused_by_number (refusal_from a r) (refusal_number x) (count_from a r) _ (turned_back a s same r k promise x e) ∙ sym start_by

  module _ (n : ℕ) (e : k.answer ≡ Ok n) (t : Settings) (same' : t ≡ opu0) (x : Result SourceState Refusal) (p : start_meaning x ≡ new_source t n 7) where
    started : start_meaning x ≡ accepted (start_state (count_from a r) 7)
    started =
        let g = gives a s same r k promise n e in
        let in_window = count_inside opu0 a.p a.q r (accepted_knows opu0 a.p a.q r g.0) in
        p ∙ ap₂ (λ (y : Settings) (i : ℕ). new_source y i 7) same' g.1 ∙ new_accepted (count_from a r) in_window

    pub source_starts : (y : Refusal) → x ≡ Err y → ⊥
    source_starts y told' =
        let o : refused (refusal_number y) ≡ accepted (start_state (count_from a r) 7) = sym (ap start_meaning told') ∙ started in
        let zero : ◌≡◌ {A = ℕ} 0 1 = cc in
        omega arith

    pub start_made : (z : SourceState) → x ≡ Ok z → accepted (record { source = z; remainder = k.remainder }) ≡ start_answer a
    start_made z told' =
        let g = gives a s same r k promise n e in
        let o : accepted z ≡ accepted (start_state (count_from a r) 7) = sym (ap start_meaning told') ∙ started in
        let state : z ≡ start_state (count_from a r) 7 = cc in
        begun z k.remainder state g.0 (keeps a s same r k promise g.0)

-- a mapper that begins goes on
pub starts_ready : (a : Rate) (m : Mapper) → accepted m ≡ start_answer a → Ready a m
unfolding start_answer
starts_ready a m e =
    let g = by_number (refusal_from a (first_remainder a.q)) m (new_mapper a) e in
    goes_on a (first_remainder a.q) m g.0 (ap (λ (y : Mapper). y.source.count) g.1) (ap (λ (y : Mapper). y.remainder) g.1)
