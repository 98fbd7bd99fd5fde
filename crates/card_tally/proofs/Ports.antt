-- The tallies of the ports: what is counted on a port is added to its tally and to no other, and
-- the sum over the ports. Assumes nothing.
use mathlib.Core.Path.{◌≡◌, refl, sym, ap, ap₂, ◌∙◌}
use mathlib.Core.Bool.{Bool, true, false}
use Prim.Native.Nat.{ℕ, zero, suc, ◌+◌, ◌-◌, ◌*◌, ◌≤◌, ◌<◌}
use native.Mathlib.Omega.{arith}
use lib.ListN.{length, get_or, set, length-set}
use lib.Seq.{get_or-set_same, get_or-set_other}
use Rattle.ports.specs.Port.{ports, bad_port}
use Rattle.ports.proofs.Laws.{within_ports, good_port}
use Rattle.card_tally.specs.declared.Tally.{Tally}
use Rattle.card_tally.specs.declared.Tallies.{Tallies}
use Rattle.card_tally.specs.declared.Total.{Total}
use Rattle.card_tally.specs.Tally.{largest, added}
use Rattle.card_tally.specs.Ports.{no_tally, tally_of, counted, sum_to, total_by, total_of, Adds, Leaves, OwnPortOnly}

module _ (y : Tallies) (p frames badcheck bytes : ℕ) where
  -- a port that the card does not have changes nothing
  pub counted_none : bad_port p ≡ true → counted y p frames badcheck bytes ≡ y
  unfolding counted
  counted_none e = rw e

  -- one that it has changes the tally at its place
  pub counted_at : bad_port p ≡ false → (i : ℕ) → i ≡ p - 1 → (t : Tally) → t ≡ added (get_or y.ports i no_tally) frames badcheck bytes
      → record { ports = set y.ports i t } ≡ counted y p frames badcheck bytes
  unfolding counted
  counted_at e i place t f = rw (e, f, place)

  own : length y.ports ≡ ports → bad_port p ≡ false → Adds y p frames badcheck bytes
  unfolding counted
  own eight e =
      let w = within_ports p e in
      let h : p - 1 < length y.ports = omega (arith, w, eight) in
      let s = get_or-set_same y.ports (p - 1) (added (get_or y.ports (p - 1) no_tally) frames badcheck bytes) no_tally h in
      rw (e, s)

  as_many : length (counted y p frames badcheck bytes).ports ≡ length y.ports
  unfolding counted
  as_many = by (bad_port p) refl
    where
      by : (b : Bool) → bad_port p ≡ b → length (counted y p frames badcheck bytes).ports ≡ length y.ports
      by true e = rw e
      by false e = rw e (length-set y.ports (p - 1) (added (get_or y.ports (p - 1) no_tally) frames badcheck bytes))

others : (y : Tallies) (p q frames badcheck bytes : ℕ) → (q ≡ p → ⊥) → Leaves q y p frames badcheck bytes
unfolding counted
others y p q frames badcheck bytes ne = by (bad_port p) refl (bad_port q) refl
  where
    by : (b : Bool) → bad_port p ≡ b → (d : Bool) → bad_port q ≡ d → Leaves q y p frames badcheck bytes
    by true e d f = rw e
    by false e true f = rw f
    by false e false f =
        let w = within_ports p e in
        let v = within_ports q f in
        let far : q - 1 ≡ p - 1 → ⊥ = λ s. ne (omega (arith, w, v, s)) in
        let s = get_or-set_other y.ports (p - 1) (q - 1) (added (get_or y.ports (p - 1) no_tally) frames badcheck bytes) no_tally far in
        rw (e, f, s)

-- the tally at place i, from 0, is that of port i + 1
pub tally_at_place : (y : Tallies) (i : ℕ) → i < ports → tally_of y (i + 1) ≡ get_or y.ports i no_tally
tally_at_place y i h =
    let back : i + 1 - 1 ≡ i = omega arith in
    let near : i + 1 ≤ ports = omega (arith, h) in
    rw (good_port (i + 1) (omega arith) near, back)

-- n is the sum of a number over the first i ports, and eight of 32 bits leave room in 64
pub record Sums (number : Tally → ℕ) (y : Tallies) (i n : ℕ) : Type 0 where
  pub is : n ≡ sum_to i (λ p. number (tally_of y p))
  pub within : n ≤ i * largest

pub sums_none : (number : Tally → ℕ) (y : Tallies) (n : ℕ) → n ≡ 0 → Sums number y 0 n
unfolding sum_to
sums_none number y n e = record { is = e; within = omega (arith, e) }

sum_step : (i : ℕ) (number : ℕ → ℕ) → sum_to i number + number (i + 1) ≡ sum_to (i + 1) number
unfolding sum_to
sum_step i number = let e : i + 1 ≡ suc i = omega arith in rw e

pub sums_next : (number : Tally → ℕ) (y : Tallies) (i n m : ℕ) → Sums number y i n → i < ports → m ≡ number (get_or y.ports i no_tally) → m ≤ largest
    → Sums number y (i + 1) (n + m)
sums_next number y i n m s h e le =
    record { is = ap₂ ◌+◌ s.is (e ∙ ap number (sym (tally_at_place y i h))) ∙ sum_step i (λ p. number (tally_of y p)); within = omega (arith, s.within, le) }

-- where the ports have these tallies, the card's total is theirs
sum_same : (n : ℕ) (f g : ℕ → ℕ) → ((p : ℕ) → f p ≡ g p) → sum_to n f ≡ sum_to n g
unfolding sum_to
sum_same zero f g h = refl
sum_same (suc n) f g h = ap₂ ◌+◌ (sum_same n f g h) (h (suc n))

pub total_same : (y : Tallies) (tally : ℕ → Tally) → ((p : ℕ) → tally_of y p ≡ tally p) → total_of y ≡ total_by tally
unfolding total_of
total_same y tally h =
    let same : (number : Tally → ℕ) → sum_to ports (λ p. number (tally_of y p)) ≡ sum_to ports (λ p. number (tally p)) = λ number. sum_same ports (λ p. number (tally_of y p)) (λ p. number (tally p)) (λ p. ap number (h p)) in
    rw (same (λ x. x.frames), same (λ x. x.badcheck), same (λ x. x.bytes))

-- the three sums over all ports are the card's total
pub sums_total : (y : Tallies) (i : ℕ) (t : Total) → i ≡ ports → Sums (λ x. x.frames) y i t.frames → Sums (λ x. x.badcheck) y i t.badcheck
    → Sums (λ x. x.bytes) y i t.bytes → t ≡ total_of y
unfolding total_of
sums_total y i t all f b n =
    let all_of : (number : Tally → ℕ) (m : ℕ) → Sums number y i m → m ≡ sum_to ports (λ p. number (tally_of y p)) = λ number m s. s.is ∙ ap (λ (k : ℕ). sum_to k (λ p. number (tally_of y p))) all in
    rw (sym (all_of (λ x. x.frames) t.frames f), sym (all_of (λ x. x.badcheck) t.badcheck b), sym (all_of (λ x. x.bytes) t.bytes n))

pub own_port_only : OwnPortOnly
own_port_only = record { own = own; others = others; as_many = as_many }
