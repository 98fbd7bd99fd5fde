-- The cases of the rule for the accepted type, and what other crates cite of it. Assumes nothing.
use mathlib.Core.Path.{◌≡◌, refl, ap, ◌∙◌}
use mathlib.Core.Bool.{Bool, true, false, cond, ◌&&◌}
use mathlib.Core.List.{List, [], ◌∷◌}
use Prim.Native.Nat.{ℕ, zero, suc, ◌+◌, ◌≤◌}
use native.Mathlib.Omega.{arith}
use lib.Dec.{eqb}
use borrow.Author.Tests.{eq-eqb, eqb-true}
use Rattle.std.specs.Prelude.{Option, Some}
use Rattle.gmp_payload_type.specs.declared.Seen.{Seen}
use Rattle.gmp_payload_type.specs.declared.Seen.TheVariants.{Never, Once, Twice}
use Rattle.gmp_payload_type.specs.declared.Types.{Types}
use Rattle.gmp_payload_type.specs.declared.Expected.{Expected}
use Rattle.gmp_payload_type.specs.Types.{new_types, is_last, times_seen, seen_after, accepted_after, judged, numbered_zero, types_after, is_accepted, gate_open}
use Rattle.gmp_payload_type.specs.Claims.{judged_all, last_three, ThreeRunning}

-- the parts of what is remembered after one more type
module _ (t : Types) (k : ℕ) where
  pub judged_accepted : (judged t k).accepted ≡ accepted_after t.seen t.accepted k
  unfolding judged
  judged_accepted = refl

  pub judged_seen : (judged t k).seen ≡ seen_after t.seen k
  unfolding judged
  judged_seen = refl

-- the check off, and on
module _ (t : Types) (e : Expected) where
  pub open_off : gate_open false t e ≡ true
  unfolding gate_open
  open_off = refl

  pub open_on : gate_open true t e ≡ is_accepted t.accepted e.payload_type
  unfolding gate_open
  open_on = refl

  module _ (psi : ℕ) where
    pub types_off : types_after false t e psi ≡ t
    unfolding types_after
    types_off = refl

    pub types_on : types_after true t e psi ≡ cond (numbered_zero e) (judged t psi) t
    unfolding types_after
    types_on = refl

-- one type so many times running
abbrev pub running : ℕ → Types → ℕ → Types
running zero t k = t
running (suc n) t k = running n (judged t k) k

-- after a type, it is the last that was seen, once or twice
last_is : (b : Bool) (k : ℕ) → is_last (cond b (Twice k) (Once k)) k ≡ true
last_is true k = eq-eqb k k refl
last_is false k = eq-eqb k k refl

twice : (t : Types) (k : ℕ) → (judged (judged t k) k).seen ≡ Twice k
twice t k =
    judged_seen (judged t k) k
    ∙ ap (λ (n : Seen). seen_after n k) (judged_seen t k)
    ∙ ap (λ (b : Bool). cond b (Twice k) (Once k)) (last_is (is_last t.seen k) k)

-- where it was seen twice it is accepted by the next
third : (t : Types) (k : ℕ) → t.seen ≡ Twice k → (judged t k).accepted ≡ Some k
third t k e = judged_accepted t k ∙ ap (λ (n : Seen). accepted_after n t.accepted k) e ∙ ap (λ (b : Bool). cond b (Some k) t.accepted) (eq-eqb k k refl)

-- A type that is accepted stays so while it runs.
chosen_same : (b : Bool) (a : Option ℕ) → cond b a a ≡ a
chosen_same true a = refl
chosen_same false a = refl

stays_one : (n : Seen) (k : ℕ) → accepted_after n (Some k) k ≡ Some k
stays_one Never k = refl
stays_one (Once j) k = refl
stays_one (Twice j) k = chosen_same (eqb j k) (Some k)

pub stays : (n : ℕ) (t : Types) (k : ℕ) → t.accepted ≡ Some k → (running n t k).accepted ≡ Some k
stays zero t k e = e
stays (suc n) t k e =
    stays n (judged t k) k (judged_accepted t k ∙ ap (λ (a : Option ℕ). accepted_after t.seen a k) e ∙ stays_one t.seen k)

-- Three or more running have it accepted, from any state.
pub accepts_three : (n : ℕ) (t : Types) (k : ℕ) → 3 ≤ n → (running n t k).accepted ≡ Some k
accepts_three zero t k h = absurd (omega arith)
accepts_three (suc zero) t k h = absurd (omega arith)
accepts_three (suc (suc zero)) t k h = absurd (omega arith)
accepts_three (suc (suc (suc n))) t k h = stays n (judged (judged (judged t k) k) k) k (third (judged (judged t k) k) k (twice t k))

-- What was seen before counts among the three.
second : (t : Types) (k : ℕ) → t.seen ≡ Once k → (judged t k).seen ≡ Twice k
second t k e = judged_seen t k ∙ ap (λ (n : Seen). seen_after n k) e ∙ ap (λ (b : Bool). cond b (Twice k) (Once k)) (eq-eqb k k refl)

after_twice : (n : ℕ) (t : Types) (k : ℕ) → t.seen ≡ Twice k → 1 ≤ n → (running n t k).accepted ≡ Some k
after_twice zero t k e h = absurd (omega arith)
after_twice (suc n) t k e h = stays n (judged t k) k (third t k e)

after_once : (n : ℕ) (t : Types) (k : ℕ) → t.seen ≡ Once k → 2 ≤ n → (running n t k).accepted ≡ Some k
after_once zero t k e h = absurd (omega arith)
after_once (suc n) t k e h = after_twice n (judged t k) k (second t k e) (omega arith)

by_seen : (n : ℕ) (t : Types) (seen : Seen) (k : ℕ) → t.seen ≡ seen → 3 ≤ times_seen seen k + n → (running n t k).accepted ≡ Some k
by_seen n t Never k e h = accepts_three n t k (omega arith)
by_seen n t (Once j) k e h = by (eqb j k) refl h
  where
    by : (b : Bool) → eqb j k ≡ b → 3 ≤ cond b 1 0 + n → (running n t k).accepted ≡ Some k
    by true same more = after_once n t k (e ∙ ap Once (eqb-true _ _ same)) (omega arith)
    by false other more = accepts_three n t k (omega arith)
by_seen n t (Twice j) k e h = by (eqb j k) refl h
  where
    by : (b : Bool) → eqb j k ≡ b → 3 ≤ cond b 2 0 + n → (running n t k).accepted ≡ Some k
    by true same more = after_twice n t k (e ∙ ap Twice (eqb-true _ _ same)) (omega arith)
    by false other more = accepts_three n t k (omega arith)

pub accepts_third : (n : ℕ) (t : Types) (k : ℕ) → 3 ≤ times_seen t.seen k + n → (running n t k).accepted ≡ Some k
accepts_third n t k h = by_seen n t t.seen k refl h

-- From a new sink on: what was seen last, of all the types that were judged,
abbrev last_seen : List ℕ → Seen
last_seen [] = Never
last_seen (a ∷ []) = Once a
last_seen (a ∷ b ∷ ks) = cond (eqb b a) (Twice a) (Once a)

last_seen_lem : (c : Bool) (j k : ℕ) → is_last (cond c (Twice j) (Once j)) k ≡ eqb j k
last_seen_lem true j k = refl
last_seen_lem false j k = refl

all_seen : (ks : List ℕ) → (judged_all ks).seen ≡ last_seen ks
all_seen [] = refl
all_seen (a ∷ []) = judged_seen new_types a
all_seen (a ∷ b ∷ []) = judged_seen (judged_all (b ∷ [])) a ∙ ap (λ (n : Seen). seen_after n a) (all_seen (b ∷ []))
all_seen (a ∷ b ∷ c ∷ ks) =
    judged_seen (judged_all (b ∷ c ∷ ks)) a
    ∙ ap (λ (n : Seen). seen_after n a) (all_seen (b ∷ c ∷ ks))
    ∙ ap (λ (x : Bool). cond x (Twice a) (Once a)) (last_seen_lem (eqb c b) b a)

-- and the type that was accepted
accepted_by : (c x : Bool) (k : ℕ) (a : Option ℕ) → cond x (cond c (Some k) a) a ≡ cond (c && x) (Some k) a
accepted_by true true k a = refl
accepted_by true false k a = refl
accepted_by false true k a = refl
accepted_by false false k a = refl

accepted_seen : (c : Bool) (j k : ℕ) (a : Option ℕ) → accepted_after (cond c (Twice j) (Once j)) a k ≡ cond c (cond (eqb j k) (Some k) a) a
accepted_seen true j k a = refl
accepted_seen false j k a = refl

only_three : (ks : List ℕ) → (judged_all ks).accepted ≡ last_three ks
only_three [] = refl
only_three (a ∷ []) = judged_accepted new_types a
only_three (a ∷ b ∷ []) =
    judged_accepted (judged_all (b ∷ [])) a
    ∙ ap (λ (n : Seen). accepted_after n (judged_all (b ∷ [])).accepted a) (all_seen (b ∷ []))
    ∙ only_three (b ∷ [])
only_three (a ∷ b ∷ c ∷ ks) =
    let before = judged_all (b ∷ c ∷ ks) in
    judged_accepted before a
    ∙ ap (λ (n : Seen). accepted_after n before.accepted a) (all_seen (b ∷ c ∷ ks))
    ∙ accepted_seen (eqb c b) b a before.accepted
    ∙ accepted_by (eqb b a) (eqb c b) a before.accepted
    ∙ ap (cond (eqb b a && eqb c b) (Some a)) (only_three (b ∷ c ∷ ks))

pub three_running : ThreeRunning
three_running = record { from_any = λ t k. accepts_three 3 t k (omega arith); only_three = only_three }
