-- The number of a verdict: a refusal has one, and none but its own verdict has it. Assumes nothing.
use mathlib.Core.Path.{◌≡◌, refl, sym, ap, ◌∙◌}
use mathlib.Core.Bool.{cond}
use Prim.Native.Nat.{ℕ, ◌+◌, ◌<◌, ◌≤◌}
use native.Mathlib.Omega.{arith}
use lib.Dec.{eqb, lit≤}
use Rattle.gmp_refusal.specs.declared.Refusal.{Refusal}
use Rattle.gmp_refusal.specs.declared.Refusal.TheVariants.{Grid, Window, Divisor, Rate, State, Count, Client, Frame, Space, Port, Patterns}
use Rattle.std.specs.Prelude.{Result, Ok, Err}
use Rattle.gmp_refusal.specs.Refusal.{refusal_number, refusal_place, verdict_number}

-- a refusal has a number
pub refusal_number_pos : (r : Refusal) → refusal_number r ≡ 0 → ⊥
refusal_number_pos Grid e = omega arith
refusal_number_pos Window e = omega arith
refusal_number_pos Divisor e = omega arith
refusal_number_pos Rate e = omega arith
refusal_number_pos State e = omega arith
refusal_number_pos Count e = omega arith
refusal_number_pos Client e = omega arith
refusal_number_pos Frame e = omega arith
refusal_number_pos Space e = omega arith
refusal_number_pos Port e = omega arith
refusal_number_pos Patterns e = omega arith

-- so a refused verdict has one
pub refused_has_number : (v : Result (Unit {0}) Refusal) (r : Refusal) (n : ℕ) → verdict_number v ≡ n → v ≡ Err r → n ≡ 0 → ⊥
refused_has_number v r n e is-refused z = refusal_number_pos r (sym (ap verdict_number is-refused) ∙ e ∙ z)

-- the verdict of a number: none but its own has it
abbrev verdict_of : ℕ → Result (Unit {0}) Refusal
verdict_of n =
    cond (eqb n 0) (Ok tt)
    (cond (eqb n 1) (Err Grid)
    (cond (eqb n 2) (Err Window)
    (cond (eqb n 3) (Err Divisor)
    (cond (eqb n 4) (Err Rate)
    (cond (eqb n 5) (Err State)
    (cond (eqb n 6) (Err Count)
    (cond (eqb n 7) (Err Client)
    (cond (eqb n 8) (Err Frame)
    (cond (eqb n 9) (Err Space)
    (cond (eqb n 10) (Err Port)
    (Err Patterns)))))))))))

verdict_back : (v : Result (Unit {0}) Refusal) → verdict_of (verdict_number v) ≡ v
verdict_back (Ok tt) = refl
verdict_back (Err Grid) = refl
verdict_back (Err Window) = refl
verdict_back (Err Divisor) = refl
verdict_back (Err Rate) = refl
verdict_back (Err State) = refl
verdict_back (Err Count) = refl
verdict_back (Err Client) = refl
verdict_back (Err Frame) = refl
verdict_back (Err Space) = refl
verdict_back (Err Port) = refl
verdict_back (Err Patterns) = refl

-- so a promise about the number of a verdict is one about the verdict
pub same_number : (v w : Result (Unit {0}) Refusal) → verdict_number v ≡ verdict_number w → v ≡ w
same_number v w e = sym (verdict_back v) ∙ ap verdict_of e ∙ verdict_back w

-- the numbers are the places up to 10, and 14 is the eleventh
record Placed (r : Refusal) : Type 0 where
  low : refusal_place r < 11 → refusal_place r ≡ refusal_number r
  high : 11 ≤ refusal_place r → refusal_place r + 3 ≡ refusal_number r
  last : refusal_place r ≤ 11

placed : (r : Refusal) → Placed r
placed Grid = record { low = λ h. omega arith; high = λ h. omega arith; last = lit≤ tt }
placed Window = record { low = λ h. omega arith; high = λ h. omega arith; last = lit≤ tt }
placed Divisor = record { low = λ h. omega arith; high = λ h. omega arith; last = lit≤ tt }
placed Rate = record { low = λ h. omega arith; high = λ h. omega arith; last = lit≤ tt }
placed State = record { low = λ h. omega arith; high = λ h. omega arith; last = lit≤ tt }
placed Count = record { low = λ h. omega arith; high = λ h. omega arith; last = lit≤ tt }
placed Client = record { low = λ h. omega arith; high = λ h. omega arith; last = lit≤ tt }
placed Frame = record { low = λ h. omega arith; high = λ h. omega arith; last = lit≤ tt }
placed Space = record { low = λ h. omega arith; high = λ h. omega arith; last = lit≤ tt }
placed Port = record { low = λ h. omega arith; high = λ h. omega arith; last = lit≤ tt }
placed Patterns = record { low = λ h. omega arith; high = λ h. omega arith; last = lit≤ tt }

-- so it is with a verdict that refuses, and the place n of its refusal
module _ {v : Result (Unit {0}) Refusal} {r : Refusal} {n : ℕ} (refuses : v ≡ Err r) (place : n ≡ refusal_place r) where
  pub low_number : n < 11 → n ≡ verdict_number v
  low_number h = place ∙ (placed r).low (omega (arith, place)) ∙ sym (ap verdict_number refuses)

  pub high_number : 11 ≤ n → n + 3 ≡ verdict_number v
  high_number h = ap (λ (m : ℕ). m + 3) place ∙ (placed r).high (omega (arith, place)) ∙ sym (ap verdict_number refuses)

  pub place_le : n ≤ 11
  place_le = omega (arith, place, (placed r).last)
