-- Two lists beside each other, and the places of a list. Assumes nothing.
use mathlib.Core.Path.{◌≡◌, refl, sym, ◌∙◌, subst}
use mathlib.Core.List.{List, [], ◌∷◌}
use Prim.Native.Nat.{ℕ, zero, suc, ◌+◌, ◌-◌, ◌<◌}
use native.Mathlib.Nat.{not-suc-le-zero, le_of_suc-le-suc}
use native.Mathlib.Omega.{arith}
use lib.ListN.{length, drop}
use Rattle.claim_recovery.specs.Runs.{At, Nth}

-- each of the second list beside that of the first, in order: the first may be longer
abbrev pub Each : {A B : Type 0} → (A → B → Type 0) → List A → List B → Type 0
Each R xs [] = Unit {0}
Each R [] (y ∷ ys) = ⊥
Each R (x ∷ xs) (y ∷ ys) = R x y × Each R xs ys

-- from the places
pub to_each : {A B : Type 0} (R : A → B → Type 0) (xs : List A) (ys : List B) → ((i : ℕ) (y : B) → At ys i y → (x : A) × At xs i x × R x y) → Each R xs ys
to_each R xs [] f = tt
to_each R [] (y ∷ ys) f = (f zero y refl).1
to_each R (x ∷ xs) (y ∷ ys) f =
    let h = f zero y refl in
    (subst (λ z. R z y) (sym h.1) h.2, to_each R xs ys (λ i z p. f (suc i) z p))

-- and back to them
pub each_at : {A B : Type 0} (R : A → B → Type 0) (xs : List A) (ys : List B) (i : ℕ) → i < length ys → Each R xs ys → (x : A) × (y : B) × At xs i x × At ys i y × R x y
each_at R xs [] i h r = absurd (not-suc-le-zero h)
each_at R [] (y ∷ ys) i h r = absurd r
each_at R (x ∷ xs) (y ∷ ys) zero h r = (x, y, refl, refl, r.0)
each_at R (x ∷ xs) (y ∷ ys) (suc i) h r = each_at R xs ys i (le_of_suc-le-suc h) r.1

-- what follows of each from two things
pub each_both : {A B : Type 0} (R S T : A → B → Type 0) → ((x : A) (y : B) → R x y → S x y → T x y) → (xs : List A) (ys : List B) → Each R xs ys → Each S xs ys → Each T xs ys
each_both R S T f xs [] r t = tt
each_both R S T f [] (y ∷ ys) r t = absurd r
each_both R S T f (x ∷ xs) (y ∷ ys) r t = (f x y r.0 t.0, each_both R S T f xs ys r.1 t.1)

-- one thing at a place
at_same : {A : Type 0} (l : List A) (i : ℕ) (x y : A) → At l i x → At l i y → x ≡ y
at_same [] i x y p q = absurd p
at_same (z ∷ l) zero x y p q = sym p ∙ q
at_same (z ∷ l) (suc i) x y p q = at_same l i x y p q

-- the places after the first k
pub at_drop : {A : Type 0} (l : List A) (k i n : ℕ) (x : A) → n ≡ k + i → At (drop k l) i x → At l n x
at_drop l zero i n x e h = subst (λ (j : ℕ). At l j x) (let d : i ≡ n = omega arith in d) h
at_drop [] (suc k) i n x e h = h
at_drop (y ∷ l) (suc k) i zero x e h = absurd (omega arith)
at_drop (y ∷ l) (suc k) i (suc n) x e h = at_drop l k i n x (omega arith) h

pub drop_at : {A : Type 0} (l : List A) (k i n : ℕ) (x : A) → n ≡ k + i → At l n x → At (drop k l) i x
drop_at l zero i n x e h = subst (λ (j : ℕ). At l j x) (let d : n ≡ i = omega arith in d) h
drop_at [] (suc k) i n x e h = h
drop_at (y ∷ l) (suc k) i zero x e h = absurd (omega arith)
drop_at (y ∷ l) (suc k) i (suc n) x e h = drop_at l k i n x (omega arith) h

-- counted from 1
pub nth_at : {A : Type 0} (l : List A) (n i : ℕ) (x : A) → n ≡ i + 1 → Nth l n x → At l i x
nth_at l zero i x e h = absurd h
nth_at l (suc n) i x e h = subst (λ (j : ℕ). At l j x) (let d : n ≡ i = omega arith in d) h

pub at_nth : {A : Type 0} (l : List A) (n i : ℕ) (x : A) → n ≡ i + 1 → At l i x → Nth l n x
at_nth l zero i x e h = absurd (omega arith)
at_nth l (suc n) i x e h = subst (λ (j : ℕ). At l j x) (let d : i ≡ n = omega arith in d) h

pub nth_same : {A : Type 0} (l : List A) (n : ℕ) (x y : A) → Nth l n x → Nth l n y → x ≡ y
nth_same l zero x y p q = absurd p
nth_same l (suc i) x y p q = at_same l i x y p q
