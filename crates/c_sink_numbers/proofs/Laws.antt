-- What crosses can be read back: each case computes. Assumes nothing.
use mathlib.Core.Path.{◌≡◌, refl, sym, ap, ap₂, ◌∙◌}
use mathlib.Core.Bool.{Bool, true, false}
use mathlib.Core.List.{List, [], ◌∷◌}
use Prim.Native.Nat.{ℕ, zero, suc, ◌+◌}
use native.Mathlib.Omega.{arith}
use lib.ListN.{length, get_or, drop, drop_of_length-le}
use lib.Seq.{drop-cons}
use Rattle.refusals.specs.Table.{Answer, accepted, refused}
use Rattle.gmp_standing.specs.declared.Count.{Count}
use Rattle.gmp_standing.specs.declared.Count.TheVariants.{Known, Unknown}
use Rattle.gmp_standing.specs.declared.Standing.{Standing}
use Rattle.gmp_standing.specs.declared.Standing.TheVariants.{Read, Tracked, Paired, BadCheck, Waiting, Outside}
use Rattle.gmp_standing.specs.Standing.{Finding, standing_meaning}
use Rattle.std.specs.Prelude.{Option, Some, None, is_some}
use Rattle.std.specs.Option.{unwrap_or}
use Rattle.gmp_payload_type.specs.declared.Seen.{Seen}
use Rattle.gmp_payload_type.specs.declared.Seen.TheVariants.{Never, Once, Twice}
use Rattle.gmp_payload_type.specs.declared.Types.{Types}
use Rattle.card_tally.specs.declared.Tally.{Tally}
use Rattle.card_tally.specs.declared.Tallies.{Tallies}
use Rattle.card_tally.specs.Ports.{no_tally}
use Rattle.gmp_sink.specs.declared.SinkState.{SinkState}
use Rattle.gmp_sink.specs.Sink.{with_types}
use Rattle.c_sink_numbers.specs.declared.SinkNumbers.{SinkNumbers}
use Rattle.c_sink_numbers.specs.Numbers.{count_from, count_flag, count_value, value_from, flag_of, seen_from, seen_times, seen_type, state_from, state_numbers, sink_reply_by}
use Rattle.c_sink_numbers.specs.Lossless.{answer_from, mended_from, Lossless}

count_back : (c : Count) → count_from (count_flag c) (count_value c) ≡ c
count_back (Known n) = refl
count_back Unknown = refl

value_back : (w : Option ℕ) → value_from (flag_of (is_some w)) (unwrap_or w 0) ≡ w
value_back (Some n) = refl
value_back None = refl

seen_back : (n : Seen) → seen_from (seen_times n) (seen_type n) ≡ n
seen_back Never = refl
seen_back (Once k) = refl
seen_back (Twice k) = refl

types_back : (t : Types) → (state_from (state_numbers (record { count = Unknown; word = None; types = t }))).types ≡ t
types_back t = ap₂ (λ (a : Option ℕ) (n : Seen). record { accepted = a; seen = n }) (value_back t.accepted) (seen_back t.seen)

state_back : (z : SinkState) → state_from (state_numbers z) ≡ z
state_back z =
    ap₂ (λ (c : Count) (w : Option ℕ). record { count = c; word = w; types = (state_from (state_numbers z)).types }) (count_back z.count) (value_back z.word)
    ∙ ap (with_types z) (types_back z.types)

standing_back : (given : SinkNumbers) (x : Standing) (handed : ℕ) (b : Bool) (z : SinkState)
    → answer_from (sink_reply_by given (accepted (standing_meaning x)) handed b z) ≡ accepted (standing_meaning x)
standing_back given (Read n) handed b z = refl
standing_back given (Tracked n) handed b z = refl
standing_back given (Paired n) handed b z = refl
standing_back given BadCheck handed b z = refl
standing_back given Waiting handed b z = refl
standing_back given Outside handed b z = refl

mended_back : (given : SinkNumbers) (a : Answer Finding) (handed : ℕ) (b : Bool) (z : SinkState) → mended_from (sink_reply_by given a handed b z) ≡ b
mended_back given (accepted f) handed true z = refl
mended_back given (accepted f) handed false z = refl
mended_back given (refused n) handed true z = refl
mended_back given (refused n) handed false z = refl

-- a list is its elements, one after the other: those from place i on, k of them
module _ {A : Type 0} (d : A) (l : List A) where
  abbrev from_place : ℕ → ℕ → List A
  from_place i zero = []
  from_place i (suc k) = get_or l i d ∷ from_place (suc i) k

  elements : (i k : ℕ) → i + k ≡ length l → drop i l ≡ from_place i k
  elements i zero e = drop_of_length-le l {i = i} (omega (arith, e))
  elements i (suc k) e =
      drop-cons l i d (omega (arith, e)) ∙ ap (λ (t : List A). get_or l i d ∷ t) (elements (suc i) k (omega (arith, e)))

pub lossless : Lossless
lossless =
    record {
      state = state_back;
      standing = standing_back;
      refusal = λ given n handed b z. refl;
      mended = mended_back;
      tallies = λ y eight. ap {B = Tallies} (λ (l : List Tally). record { ports = l }) (sym (elements no_tally y.ports 0 8 (omega (arith, eight))));
      numbers = λ l many. sym (elements 0 l 0 24 (omega (arith, many)));
    }
