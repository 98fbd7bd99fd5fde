-- The tallies over a list of sink calls are sums, port by port. Assumes nothing.
use mathlib.Core.Path.{◌≡◌, refl, sym, ap, ◌∙◌, subst, subst⁻¹}
use mathlib.Core.Bool.{Bool, true, false, true≢false, cond, ◌&&◌}
use mathlib.Core.List.{List, [], ◌∷◌, cons-ne-nil}
use Prim.Native.Nat.{ℕ, ◌+◌}
use native.Mathlib.Numerals.{one-add}
use lib.Dec.{eqb}
use lib.ListN.{length}
use borrow.Author.Tests.{eqb-true, eqb-false}
use Rattle.refusals.specs.Table.{Answer}
use Rattle.gmp_standing.specs.Standing.{Finding}
use Rattle.card_tally.specs.declared.Tally.{Tally}
use Rattle.card_tally.specs.declared.Tallies.{Tallies}
use Rattle.card_tally.specs.Tally.{added, Of32Bits}
use Rattle.card_tally.specs.Ports.{tally_of, counted, OfCard}
use Rattle.card_tally.proofs.Laws.{added_nothing, added_twice, added_32_bits}
use Rattle.card_tally.proofs.Ports.{own_port_only, total_same}
use Rattle.gmp_sink.proofs.Laws.{answer_accepted, answer_refused, accepted_port}
use Rattle.card_promise.specs.Card.{tallies_by, tallies_after}
use Rattle.claim_recovery.specs.Runs.{SinkStep, sink_takes, answer_of, handed_of}
use Rattle.claim_recovery.specs.Tallied.{tallies_end, counts_on, taken_on, bad_in, bad_frames_of, bytes_of, summed, TallySums}

-- what these accepted calls add
abbrev sum_of : Tally → List SinkStep → Tally
sum_of y ys = added y (length ys) (bad_frames_of ys) (bytes_of ys)

-- the tallies after one call
abbrev after : SinkStep → Tallies → Tallies
after x y = tallies_after x.call.settings x.state x.call.expected x.call.frame x.call.out x.call.port y

after_accepted : (x : SinkStep) (y : Tallies) → sink_takes x ≡ true → after x y ≡ counted y x.call.port 1 (bad_in (answer_of x)) (length (handed_of x))
unfolding tallies_after
after_accepted x y t =
    let e = answer_accepted x.call.settings x.state x.call.frame x.call.out x.call.port (eqb-true _ 0 t) in
    ap (λ (a : Answer Finding). tallies_by a x.call.port (length (handed_of x)) y) e
    ∙ ap (λ (a : Answer Finding). counted y x.call.port 1 (bad_in a) (length (handed_of x))) (sym e)

after_refused : (x : SinkStep) (y : Tallies) → sink_takes x ≡ false → after x y ≡ y
unfolding tallies_after
after_refused x y t =
    ap (λ (a : Answer Finding). tallies_by a x.call.port (length (handed_of x)) y)
    (answer_refused x.call.settings x.state x.call.frame x.call.out x.call.port (eqb-false _ 0 t))

-- The tally of port p after one call: one that was accepted and named the port adds to it, and any
-- other leaves it.
module _ (x : SinkStep) (y : Tallies) (p : ℕ) where
  unchanged : (a b : Bool) → sink_takes x ≡ a → eqb x.call.port p ≡ b → (a && b) ≡ false → tally_of (after x y) p ≡ tally_of y p
  unchanged true true t n e = absurd (true≢false e)
  unchanged true false t n e =
      ap (λ (w : Tallies). tally_of w p) (after_accepted x y t)
      ∙ own_port_only.others y x.call.port p 1 (bad_in (answer_of x)) (length (handed_of x)) (λ s. eqb-false x.call.port p n (sym s))
  unchanged false b t n e = ap (λ (w : Tallies). tally_of w p) (after_refused x y t)

  changed : OfCard y → (a b : Bool) → sink_takes x ≡ a → eqb x.call.port p ≡ b → (a && b) ≡ true
      → tally_of (after x y) p ≡ added (tally_of y p) 1 (bad_in (answer_of x)) (length (handed_of x))
  changed c true true t n e =
      let same : x.call.port ≡ p = eqb-true _ _ n in
      let good = accepted_port x.call.settings (length x.call.frame) (length x.call.out) x.call.port (eqb-true _ 0 t) in
      ap (λ (w : Tallies). tally_of w p) (after_accepted x y t)
      ∙ subst (λ (q : ℕ). tally_of (counted y x.call.port 1 (bad_in (answer_of x)) (length (handed_of x))) q ≡ added (tally_of y q) 1 (bad_in (answer_of x)) (length (handed_of x))) same
      (own_port_only.own y x.call.port 1 (bad_in (answer_of x)) (length (handed_of x)) c.eight good)
  changed c true false t n e = absurd (true≢false (sym e))
  changed c false b t n e = absurd (true≢false (sym e))

  -- one call more in front
  one_more : OfCard y → (rest : List SinkStep) (b : Bool) → counts_on p x ≡ b
      → sum_of (tally_of (after x y) p) rest ≡ sum_of (tally_of y p) (cond b (x ∷ rest) rest)
  unfolding bad_frames_of bytes_of
  one_more c rest true e =
      ap (λ (w : Tally). sum_of w rest) (changed c _ _ refl refl e)
      ∙ added_twice (tally_of y p) 1 (bad_in (answer_of x)) (length (handed_of x)) (length rest) (bad_frames_of rest) (bytes_of rest)
      ∙ ap (λ (n : ℕ). added (tally_of y p) n (bad_in (answer_of x) + bad_frames_of rest) (length (handed_of x) + bytes_of rest)) (one-add (length rest))
  one_more c rest false e = ap (λ (w : Tally). sum_of w rest) (unchanged _ _ refl refl e)

  still_32_bits : OfCard y → (b : Bool) → counts_on p x ≡ b → Of32Bits (tally_of (after x y) p)
  still_32_bits c true e = subst⁻¹ Of32Bits (changed c _ _ refl refl e) (added_32_bits (tally_of y p) 1 (bad_in (answer_of x)) (length (handed_of x)))
  still_32_bits c false e = subst⁻¹ Of32Bits (unchanged _ _ refl refl e) (c.each p)

still_eight : (x : SinkStep) (y : Tallies) (b : Bool) → sink_takes x ≡ b → length (after x y).ports ≡ length y.ports
still_eight x y true t = ap (λ (w : Tallies). length w.ports) (after_accepted x y t) ∙ own_port_only.as_many y x.call.port 1 (bad_in (answer_of x)) (length (handed_of x))
still_eight x y false t = ap (λ (w : Tallies). length w.ports) (after_refused x y t)

still_of_card : (x : SinkStep) (y : Tallies) → OfCard y → OfCard (after x y)
still_of_card x y c = record { eight = still_eight x y _ refl ∙ c.eight; each = λ p. still_32_bits x y p c _ refl }

each_port : (y : Tallies) → OfCard y → (calls : List SinkStep) (p : ℕ) → tally_of (tallies_end y calls) p ≡ summed y calls p
unfolding tallies_end taken_on bad_frames_of bytes_of
each_port y c [] p = sym (added_nothing (tally_of y p) (c.each p))
each_port y c (x ∷ xs) p = each_port (after x y) (still_of_card x y c) xs p ∙ one_more x y p c (taken_on p xs) _ refl

not_named_by : (x : SinkStep) (y : Tallies) (p : ℕ) (rest : List SinkStep) (end : Tally) (b : Bool) → counts_on p x ≡ b
    → cond b (x ∷ rest) rest ≡ [] → (rest ≡ [] → end ≡ tally_of (after x y) p) → end ≡ tally_of y p
not_named_by x y p rest end true t e later = absurd (cons-ne-nil _ _ e)
not_named_by x y p rest end false t e later = later e ∙ unchanged x y p _ _ refl refl t

not_named : (y : Tallies) (calls : List SinkStep) (p : ℕ) → taken_on p calls ≡ [] → tally_of (tallies_end y calls) p ≡ tally_of y p
unfolding tallies_end taken_on
not_named y [] p e = refl
not_named y (x ∷ xs) p e = not_named_by x y p (taken_on p xs) (tally_of (tallies_end (after x y) xs) p) _ refl e (not_named (after x y) xs p)

pub tally_sums : TallySums
tally_sums =
    record {
      each_port = each_port;
      not_named = λ y calls p none. not_named y calls p none;
      total = λ y c calls. total_same (tallies_end y calls) _ (each_port y c calls);
    }
