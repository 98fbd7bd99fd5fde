-- The tallies and their numbers, as far as a loop has come. Assumes nothing.
use mathlib.Core.Path.{◌≡◌, ap, sym, ◌∙◌}
use mathlib.Core.List.{List, [], ◌∷◌, ◌++◌}
use Prim.Native.Nat.{ℕ, suc, ◌+◌, ◌*◌, ◌<◌}
use native.Mathlib.Omega.{arith}
use lib.ListN.{length, get_or, take, set, length-set}
use Rattle.std.proofs.Common.{append_assoc}
use Rattle.std.proofs.lemmas.List.{take_more_set, take_all}
use Rattle.card_tally.specs.declared.Tallies.{Tallies}
use Rattle.card_tally.specs.declared.Tally.{Tally}
use Rattle.card_tally.specs.Ports.{no_tally}
use Rattle.card_tally.proofs.Ports.{tally_at_place}
use Rattle.c_sink_numbers.specs.Numbers.{tally_at, tallies_in, numbers_of}

-- after three writes in a row the list goes on with the three
pub three_more : (xs : List ℕ) (i a b c : ℕ) → i + 2 < length xs → take (i + 3) (set (set (set xs i a) (i + 1) b) (i + 2) c) ≡ take i xs ++ (a ∷ b ∷ c ∷ [])
three_more xs i a b c h =
    let one = set xs i a in
    let two = set one (i + 1) b in
    let first : take (i + 1) one ≡ take i xs ++ (a ∷ []) = take_more_set xs i a (omega (arith, h)) in
    let second : take (i + 1 + 1) two ≡ take (i + 1) one ++ (b ∷ []) = take_more_set one (i + 1) b (simp length-set (omega (arith, h))) in
    let third : take (i + 2 + 1) (set two (i + 2) c) ≡ take (i + 2) two ++ (c ∷ []) = take_more_set two (i + 2) c (simp length-set (omega (arith, h))) in
    let e : i + 3 ≡ i + 2 + 1 = omega arith in
    let f : i + 2 ≡ i + 1 + 1 = omega arith in
    ap (λ (n : ℕ). take n (set two (i + 2) c)) e
    ∙ third
    ∙ ap (λ (t : List ℕ). t ++ (c ∷ [])) (ap (λ (n : ℕ). take n two) f ∙ second ∙ ap (λ (t : List ℕ). t ++ (b ∷ [])) first)
    ∙ simp append_assoc

-- numbers that are those of the first i ports, and then those of one port more
pub numbers_more : (y : Tallies) (xs : List ℕ) (i : ℕ) → length xs ≡ 24 → i < 8 → take (3 * i) xs ≡ numbers_of i y
    → take (3 * (i + 1)) (set (set (set xs (3 * i) (get_or y.ports i no_tally).frames) (3 * i + 1) (get_or y.ports i no_tally).badcheck) (3 * i + 2) (get_or y.ports i no_tally).bytes)
    ≡ numbers_of (i + 1) y
numbers_more y xs i many below so_far =
    let t = get_or y.ports i no_tally in
    let e : 3 * (i + 1) ≡ 3 * i + 3 = omega arith in
    let f : i + 1 ≡ suc i = omega arith in
    let place = tally_at_place y i below in
    rw (e, three_more xs (3 * i) t.frames t.badcheck t.bytes (omega (arith, many, below)), so_far, ← place, f)

pub numbers_all : (y : Tallies) (xs : List ℕ) (i : ℕ) → length xs ≡ 24 → i ≡ 8 → take (3 * i) xs ≡ numbers_of i y → xs ≡ numbers_of 8 y
numbers_all y xs i many all so_far = sym (take_all (3 * i) xs (omega (arith, many, all))) ∙ so_far ∙ ap (λ (n : ℕ). numbers_of n y) all

-- tallies that are those of the first numbers, and then those of three numbers more
pub tallies_more : (l : List ℕ) (ys : List Tally) (i : ℕ) (t : Tally) → i < length ys → t ≡ tally_at l (3 * i) → take i ys ≡ tallies_in i l
    → take (i + 1) (set ys i t) ≡ tallies_in (i + 1) l
tallies_more l ys i t below is so_far =
    let f : i + 1 ≡ suc i = omega arith in
    rw (take_more_set ys i t below, so_far, is, f)

pub tallies_all : (l : List ℕ) (ys : List Tally) (i : ℕ) → length ys ≡ 8 → i ≡ 8 → take i ys ≡ tallies_in i l → ys ≡ tallies_in 8 l
tallies_all l ys i eight all so_far = sym (take_all i ys (omega (arith, eight, all))) ∙ so_far ∙ ap (λ (n : ℕ). tallies_in n l) all
