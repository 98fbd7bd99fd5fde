-- What the claims are used for follows from them. Assumes nothing.
use mathlib.Core.Path.{◌≡◌, refl, ap, ◌∙◌}
use mathlib.Core.Logic.{inl, inr}
use mathlib.Core.Bool.{Bool, true, false, not}
use Prim.Native.Nat.{ℕ, ◌+◌, ◌≤◌}
use native.Mathlib.Omega.{arith}
use lib.Dec.{eqb, lit≤, lit<}
use borrow.Author.Tests.{eq-eqb}
use Rattle.gmp_places.specs.Even.{Even}
use Rattle.gmp_places.proofs.Even.{lie_evenly}
use Rattle.gmp_payload_type.specs.Types.{times_seen}
use Rattle.claim_recovery.proofs.Claims.{demand, recovers_alone, three_come, costs_nothing}
use Rattle.claim_worked.specs.Enough.{TypedFrom, SawOnce, SawTwice, ToldWith, Enough}

two_types : TypedFrom SawOnce 2
two_types s on source calls run m n z reader saw reads i low high zeros =
    let is = source.payload_type in
    let one : times_seen z.types.seen is ≡ 1 = rw (saw, eq-eqb is is refl) in
    let t = (demand.typed_recovery s on source calls run is m n z reader reads).bytes i low high (inr (omega arith)) in
    record { frame = t.frame; call = t.call; sent_as = t.sent_as; read_by = t.read_by; hands = t.same refl }

one_type : TypedFrom SawTwice 1
one_type s on source calls run m n z reader saw reads i low high zeros =
    let is = source.payload_type in
    let two : times_seen z.types.seen is ≡ 2 = rw (saw, eq-eqb is is refl) in
    let t = (demand.typed_recovery s on source calls run is m n z reader reads).bytes i low high (inr (omega arith)) in
    record { frame = t.frame; call = t.call; sent_as = t.sent_as; read_by = t.read_by; hands = t.same refl }

told_with : (wrong : ℕ) (mended : Bool) → not (eqb wrong 0) ≡ mended → ToldWith wrong mended
told_with wrong mended e s on source calls run m n z held reader reads i low high =
    let k = (costs_nothing.holding s on source calls run m n z held reader reads).0 i low high in
    record {
      frame = k.0;
      call = k.1;
      sent_as = k.2;
      read_by = k.3;
      delivers = k.4.delivers;
      holds = k.4.holds;
      told = λ w. k.4.told ∙ ap (λ (n : ℕ). not (eqb n 0)) w ∙ e;
    }

-- a run of an OPU0 frame
opu0_run : (C a L : ℕ) → C ≤ 15232 → a + L ≤ 15232 → Even C 15232 a L
opu0_run C a L le run = lie_evenly.every_run 3808 C a L (lit< tt) le run

pub enough : Enough
enough =
    record {
      two_frames = λ s source calls run m n z reader far reads.
          let r = recovers_alone s source calls run m n z reader far reads in
          record { hold = r.hold; deliver = r.deliver };
      three_types = λ s on source calls run m n z reader began reads i low high zeros.
          let t = (demand.typed_recovery s on source calls run source.payload_type m n z reader reads).bytes i low high (inr (omega arith)) in
          record { frame = t.frame; call = t.call; sent_as = t.sent_as; read_by = t.read_by; hands = t.same refl };
      two_types = two_types;
      one_type = one_type;
      no_type = λ s on source calls run m n z reader had reads i low high zeros.
          let t = (demand.typed_recovery s on source calls run source.payload_type m n z reader reads).bytes i low high (inl had) in
          record { frame = t.frame; call = t.call; sent_as = t.sent_as; read_by = t.read_by; hands = t.same refl };
      other_type = λ s on source calls run expected m n z reader ne began reads i low high zeros.
          let t = (demand.typed_recovery s on source calls run expected m n z reader reads).bytes i low high (inr (omega arith)) in
          record { frame = t.frame; call = t.call; sent_as = t.sent_as; read_by = t.read_by; hands = t.other ne };
      three_come = λ s source calls run m one far. three_come s source calls run m (m + 768) one (omega arith) (omega arith);
      three_bits = demand.no_false_count false;
      two_bits = demand.no_false_count true;
      one_told = told_with 1 _ refl;
      none_told = told_with 0 _ refl;
      opu0_run = λ C a L le run. let e = opu0_run C a L le run in (e.above, e.below);
      exact_run = λ a run. let e = opu0_run 14408 a 1904 (lit≤ tt) run in omega (arith, e.above, e.below);
      card_run = λ a run. let e = opu0_run 14407 a 1000 (lit≤ tt) run in (omega (arith, e.below), omega (arith, e.above));
    }
