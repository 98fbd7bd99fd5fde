-- The payload type along a source run: what a sink remembers of types after so many frames numbered
-- 0, and how often these come. Assumes nothing.
use mathlib.Core.Path.{◌≡◌, refl, sym, ap, ◌∙◌, subst}
use mathlib.Core.Bool.{Bool, true, false, cond}
use mathlib.Core.List.{List, [], ◌∷◌}
use Prim.Native.Nat.{ℕ, zero, suc, ◌+◌, ◌≤◌, ◌/◌, ◌%◌}
use native.Mathlib.Omega.{arith}
use lib.Dec.{eqb}
use lib.ListN.{length, take, drop}
use borrow.Author.Tests.{eqb-true, eqb-false}
use Rattle.gmp_settings.specs.declared.Settings.{Settings}
use Rattle.gmp_payload_type.specs.declared.Types.{Types}
use Rattle.gmp_payload_type.specs.Types.{judged, types_after}
use Rattle.gmp_payload_type.proofs.Laws.{types_on, running}
use Rattle.gmp_frame.specs.Frame.{psi_of}
use Rattle.gmp_source.specs.declared.SourceState.{SourceState}
use Rattle.gmp_source.specs.Source.{next_state}
use Rattle.gmp_source.proofs.Laws as source
use Rattle.gmp_sink.specs.declared.SinkState.{SinkState}
use Rattle.claim_recovery.specs.Runs.{At, SourceCall, SourceStep, SinkStep, source_takes, source_after, source_steps, load_of, count_of, number_of}
use Rattle.claim_recovery.specs.Demand.{PassedOn, zero_frames}
use Rattle.claim_recovery.proofs.Lists.{Each}
use Rattle.claim_recovery.proofs.Threads.{Link, Chain, followed, Thread}
use Rattle.claim_recovery.proofs.Along.{frame_is, AsWritten}

-- the accepted calls of a source, each from the state that the one before it left
abbrev Linked : SourceState → List SourceStep → Type 0
Linked z [] = Unit {0}
Linked z (x ∷ xs) = (x.state ≡ z) × Linked (next_state z (count_of x)) xs

linked_by : (x : SourceStep) (b : Bool) (rest : List SourceStep) → source_takes x ≡ b → Linked (source_after x) rest → Linked x.state (cond b (x ∷ rest) rest)
linked_by x true rest e later = (
  refl,
  subst (λ (q : SourceState). Linked q rest) (source.state_accepted x.call.settings x.state x.call.next x.call.client x.call.buffer (eqb-true _ 0 e)) later,
)
linked_by x false rest e later =
    subst (λ (q : SourceState). Linked q rest) (source.state_refused x.call.settings x.state x.call.next x.call.client x.call.buffer (eqb-false _ 0 e)) later

linked : (z : SourceState) (calls : List SourceCall) → Linked z (source_steps z calls)
unfolding source_steps
linked z [] = tt
linked z (c ∷ cs) =
    let x : SourceStep = record { call = c; state = z } in
    linked_by x (source_takes x) (source_steps (source_after x) cs) refl (linked (source_after x) cs)

-- all of one payload type
abbrev pub OfType : ℕ → List SourceStep → Type 0
OfType k [] = Unit {0}
OfType k (x ∷ xs) = (x.state.payload_type ≡ k) × OfType k xs

type_of : (z : SourceState) (xs : List SourceStep) → Linked z xs → OfType z.payload_type xs
type_of z [] h = tt
type_of z (x ∷ xs) h = (ap (λ (q : SourceState). q.payload_type) h.0, type_of (next_state z (count_of x)) xs h.1)

pub one_type : (z : SourceState) (calls : List SourceCall) → OfType z.payload_type (source_steps z calls)
one_type z calls = type_of z (source_steps z calls) (linked z calls)

pub type_drop : (k n : ℕ) (xs : List SourceStep) → OfType k xs → OfType k (drop n xs)
type_drop k zero xs h = h
type_drop k (suc n) [] h = tt
type_drop k (suc n) (x ∷ xs) h = type_drop k n xs h.1

-- numbered from a on, modulo 256
abbrev pub Numbered : ℕ → List SourceStep → Type 0
Numbered a [] = Unit {0}
Numbered a (x ∷ xs) = (number_of x ≡ a % 256) × Numbered (a + 1) xs

numbered_of : (a : ℕ) (z : SourceState) (xs : List SourceStep) → z.multiframe % 256 ≡ a % 256 → Linked z xs → Numbered a xs
numbered_of a z [] e h = tt
numbered_of a z (x ∷ xs) e h =
    let n : (z.multiframe % 256 + 1) % 256 % 256 ≡ (a + 1) % 256 = omega arith in
    (ap (λ (q : SourceState). q.multiframe % 256) h.0 ∙ e, numbered_of (a + 1) (next_state z (count_of x)) xs n h.1)

pub numbered : (z : SourceState) (calls : List SourceCall) → Numbered z.multiframe (source_steps z calls)
numbered z calls = numbered_of z.multiframe z (source_steps z calls) refl (linked z calls)

pub numbered_drop : (a n : ℕ) (xs : List SourceStep) → Numbered a xs → Numbered (a + n) (drop n xs)
numbered_drop a zero xs h = subst (λ (b : ℕ). Numbered b xs) (let e : a ≡ a + 0 = omega arith in e) h
numbered_drop a (suc n) [] h = tt
numbered_drop a (suc n) (x ∷ xs) h =
    subst (λ (b : ℕ). Numbered b (drop n xs)) (let e : a + 1 + n ≡ a + suc n = omega arith in e) (numbered_drop (a + 1) n xs h.1)

-- Of l frames from the number a on those numbered 0 are one for each round of 256 that begins among
-- them.
pub zeros_of : (a l : ℕ) (xs : List SourceStep) → Numbered a xs → l ≤ length xs → zero_frames (take l xs) + (a + 255) / 256 ≡ (a + l + 255) / 256
zeros_of a zero xs h le = omega arith
zeros_of a (suc l) [] h le = absurd (omega arith)
zeros_of a (suc l) (x ∷ xs) h le = by (eqb (number_of x) 0) refl (zeros_of (a + 1) l xs h.1 (omega arith))
  where
    by : (b : Bool) → eqb (number_of x) 0 ≡ b → zero_frames (take l xs) + (a + 1 + 255) / 256 ≡ (a + 1 + l + 255) / 256
        → cond b (suc (zero_frames (take l xs))) (zero_frames (take l xs)) + (a + 255) / 256 ≡ (a + suc l + 255) / 256
    by true e later = let z : number_of x ≡ 0 = eqb-true _ 0 e in let n = h.0 in omega arith
    by false e later = let z : number_of x ≡ 0 → ⊥ = eqb-false _ 0 e in let n = h.0 in omega (arith, z)

-- What a sink remembers of types, where the type check is on: it is told each frame's number, and
-- the frames go for those that a source of this type wrote.
module _ (s : Settings) (on : s.type_check ≡ true) (is expected : ℕ) where
  -- one frame
  types_step : (old : ℕ) (x : SourceStep) (z : SinkState) (y : SinkStep) → Link s old x → PassedOn (AsWritten s) expected x y → x.state.payload_type ≡ is
      → (followed s z y).types ≡ cond (eqb (number_of x) 0) (judged z.types is) z.types
  types_step old x z y link told k =
      ap (λ (b : Bool). types_after b z.types y.call.expected (psi_of s.k y.call.frame)) on
      ∙ types_on z.types y.call.expected (psi_of s.k y.call.frame)
      ∙ ap (λ (n : ℕ). cond (eqb n 0) (judged z.types (psi_of s.k y.call.frame)) z.types) told.number
      ∙ ap (λ (p : ℕ). cond (eqb (number_of x) 0) (judged z.types p) z.types) psi_is
      ∙ by (eqb (number_of x) 0)
    where
      psi_is : psi_of s.k y.call.frame ≡ cond (eqb (number_of x) 0) is 0
      psi_is =
          told.lent.psi
          ∙ ap (psi_of s.k) (frame_is s old x link)
          ∙ source.psi_of_written s x.state (count_of x) (load_of x)
          ∙ ap (λ (j : ℕ). cond (eqb (number_of x) 0) j 0) k

      by : (b : Bool) → cond b (judged z.types (cond b is 0)) z.types ≡ cond b (judged z.types is) z.types
      by true = refl
      by false = refl

  -- up to the call at place j
  pub types_at : (old : ℕ) (xs : List SourceStep) (z : SinkState) (ys : List SinkStep) (end : SinkState) → Chain s old xs → Thread s z ys end
      → Each (PassedOn (AsWritten s) expected) xs ys → OfType is xs → (j : ℕ) (y : SinkStep) → At ys j y
      → y.state.types ≡ running (zero_frames (take j xs)) z.types is
  types_at old xs z [] end c h r k j y q = absurd q
  types_at old [] z (y₁ ∷ ys) end c h r k j y q = absurd r
  types_at old (x₁ ∷ xs) z (y₁ ∷ ys) end c h r k zero y q = ap (λ (w : SinkStep). w.state.types) (sym q) ∙ ap (λ (w : SinkState). w.types) h.0.from
  types_at old (x₁ ∷ xs) z (y₁ ∷ ys) end c h r k (suc j) y q =
      types_at (count_of x₁) xs (followed s z y₁) ys end c.1 h.1 r.1 k.1 j y q
      ∙ ap (λ (t : Types). running (zero_frames (take j xs)) t is) (types_step old x₁ z y₁ c.0 r.0 k.0)
      ∙ by (eqb (number_of x₁) 0) (zero_frames (take j xs))
    where
      by : (b : Bool) (n : ℕ) → running n (cond b (judged z.types is) z.types) is ≡ running (cond b (suc n) n) z.types is
      by true n = refl
      by false n = refl
