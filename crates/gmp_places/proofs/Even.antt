-- Why the client bytes lie evenly: before a run and after it, less than S is left over where n × C
-- is divided by S. Assumes nothing.
use mathlib.Core.Path.{◌≡◌, refl}
use Prim.Native.Nat.{ℕ, zero, suc, ◌+◌, ◌*◌, ◌/◌, ◌%◌, ◌≤◌, ◌<◌}
use native.Mathlib.Nat.{add-mul, add-suc, add-zero, div-add-mod, div-lt_iff_lt-mul, lt_of_mul-lt-mul_left, mod-eq_of_lt, mod-lt, mod_self, mul-add, mul_comm, mul-one, one-mul, zero-mod, zero-mul}
use native.Mathlib.Omega.{arith}
use Rattle.gmp_settings.specs.Grid.{payload_bytes}
use Rattle.gmp_places.specs.Places.{places}
use Rattle.gmp_places.specs.Even.{places_in, Even, BytesLieEvenly}
use Rattle.gmp_places.proofs.Steps.{places_whole}

-- the places of a run are the difference of two numbers of first places
pub difference : (C S a L : ℕ) → places_in C S a L + places C S a ≡ places C S (a + L)
unfolding places_in places
difference C S a zero = rw (add-zero a) (omega arith)
difference C S a (suc L) = rw (add-suc a L) (omega (arith, difference C S a L))

module _ (C S : ℕ) (le : C ≤ S) (a L : ℕ) where
  -- S × the places of a run, with what is left over after it, is L × C, with what was before it
  pub balance : S * places_in C S a L + (a + L) * C % S ≡ L * C + a * C % S
  balance =
      let whole : (a + L) * C / S ≡ places_in C S a L + a * C / S = omega (arith, difference C S a L, places_whole C S le a, places_whole C S le (a + L)) in
      let parts : S * ((a + L) * C / S) ≡ S * places_in C S a L + S * (a * C / S) = rw whole (mul-add S (places_in C S a L) (a * C / S)) in
      omega (arith, parts, div-add-mod (a * C) S, div-add-mod ((a + L) * C) S, add-mul a L C)

  pub even : 0 < S → Even C S a L
  even pos =
      let before : a * C % S < S = mod-lt (a * C) pos in
      let after : (a + L) * C % S < S = mod-lt ((a + L) * C) pos in
      let under : L * C < (places_in C S a L + 1) * S = omega (arith, balance, after, add-mul (places_in C S a L) 1 S, mul_comm S (places_in C S a L)) in
      let over : S * places_in C S a L < S * (L * C / S + 2) = omega (arith, balance, before, div-add-mod (L * C) S, mod-lt (L * C) pos, mul-add S (L * C / S) 2) in
      record {
        above = omega (arith, balance, before);
        below = omega (arith, balance, after);
        least = omega (arith, (div-lt_iff_lt-mul pos).1 under);
        most = omega (arith, lt_of_mul-lt-mul_left S over);
        difference = difference C S a L;
      }

-- with one stuffing byte, payload byte 1 is it: nothing is left over before the run, C after it
sharp_below : (C S : ℕ) → C + 1 ≡ S → S * places_in C S 0 1 + C ≡ 1 * C
sharp_below C S e =
    let before : 0 * C % S ≡ 0 = rw (zero-mul C) (zero-mod S) in
    let after : (0 + 1) * C % S ≡ C = rw (one-mul C) (mod-eq_of_lt (omega (arith, e))) in
    omega (arith, balance C S (omega (arith, e)) 0 1, before, after)

-- with one client byte, payload byte S carries it: a is left over before the run, nothing after it
sharp_above : (a S : ℕ) → a + 1 ≡ S → S * places_in 1 S a 1 ≡ 1 * 1 + a
sharp_above a S e =
    let before : a * 1 % S ≡ a = rw (mul-one a) (mod-eq_of_lt (omega (arith, e))) in
    let after : (a + 1) * 1 % S ≡ 0 = rw (e, mul-one S) (mod_self S) in
    omega (arith, balance 1 S (omega (arith, e)) a 1, before, after)

pub lie_evenly : BytesLieEvenly
unfolding places_in
lie_evenly =
    record {
      every_run = λ K C a L pos le run. even C (payload_bytes K) le a L (omega (arith, pos));
      sharp_below = λ K C e. sharp_below C (payload_bytes K) e;
      sharp_above = λ K a e. sharp_above a (payload_bytes K) e;
      eight_below = refl;
      eight_above = refl;
    }
