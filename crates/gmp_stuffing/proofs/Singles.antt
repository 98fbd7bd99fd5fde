-- A row in which the first j client bytes of the frame are placed, and zeros where the others go:
-- what a loop keeps that puts client bytes one by one to their places. Assumes nothing.
use mathlib.Core.Path.{◌≡◌, sym, ◌∙◌}
use mathlib.Core.List.{List}
use mathlib.Core.Logic.{⊎_elim}
use Prim.Native.Nat.{ℕ, ◌+◌, ◌*◌, ◌/◌, ◌≤◌, ◌<◌}
use native.Mathlib.Decide.{dec_le}
use native.Mathlib.Omega.{arith}
use lib.ListN.{length, get_or, take, set, replicate, length-take, length-set, length-replicate, get_or-replicate, get_or-eq_default}
use lib.Seq.{get_or-take, get_or-set_same, get_or-set_other, ext_get_or}
use Rattle.gmp_places.specs.Places.{placed, tabulate}
use Rattle.gmp_stuffing.specs.Row.{row_bytes}
use Rattle.gmp_places.proofs.Steps.{Client, step, placed_client, placed_stuffing, length_tabulate}
use Rattle.gmp_stuffing.proofs.Runs.{later, in_row, get_d_tabulate}

-- where the client bytes are not none, there is one
pub some_byte : (n : ℕ) → (n ≡ 0 → ⊥) → 0 < n
some_byte n none = omega arith

-- of the first j, number n is there or not, and one more changes nothing but at j
beyond : (l : List ℕ) (j n : ℕ) → j ≤ n → get_or (take j l) n 0 ≡ 0
beyond l j n h = get_or-eq_default (take j l) 0 {n = n} (rw (length-take j l) (omega arith))

module _ (k r : ℕ) (client : List ℕ) (pos : 0 < k) (le : length client ≤ 4 * k) where
  abbrev C : ℕ
  C = length client

  abbrev count : ℕ → ℕ
  count i = (r * k + i) * length client / (4 * k)

  -- the row of these client bytes, with the places of the whole frame
  abbrev row : List ℕ → List ℕ
  row bytes = tabulate (placed (length client) (4 * k) bytes) (r * k) k

  -- two such rows are alike at a place where their bytes are
  alike : (a b : List ℕ) (i : ℕ) → i < k → (Client C (4 * k) (r * k + i) → get_or a (count i) 0 ≡ get_or b (count i) 0) → get_or (row a) i 0 ≡ get_or (row b) i 0
  alike a b i h f =
      get_d_tabulate (placed C (4 * k) a) (r * k) k i h
      ∙ ⊎_elim
      (λ s. placed_client C (4 * k) a (r * k + i) le s ∙ f s ∙ sym (placed_client C (4 * k) b (r * k + i) le s))
      (λ s. placed_stuffing C (4 * k) a (r * k + i) s ∙ sym (placed_stuffing C (4 * k) b (r * k + i) s))
      (step C (4 * k) le (r * k + i))
      ∙ sym (get_d_tabulate (placed C (4 * k) b) (r * k) k i h)

  length_of : (a : List ℕ) → length (row a) ≡ k
  length_of a = length_tabulate (placed C (4 * k) a) (r * k) k

  -- none of the row's bytes: all is zero
  pub zeros_placed : (j : ℕ) → j ≡ r * k * C / (4 * k) → replicate k 0 ≡ row (take j client)
  zeros_placed j e =
      ext_get_or 0 (replicate k 0) (row (take j client)) (length-replicate k 0 ∙ sym (length_of (take j client))) (λ i h.
      let l : i < k = rw (length-replicate {A = ℕ} k 0) at h in
      get_or-replicate k i 0 0 l
      ∙ sym
      (get_d_tabulate (placed C (4 * k) (take j client)) (r * k) k i l
      ∙ ⊎_elim
      (λ s. placed_client C (4 * k) (take j client) (r * k + i) le s ∙ beyond client j (count i) (omega (arith, e, later C (4 * k) (omega arith) le (r * k) (r * k + i) (omega arith))))
      (λ s. placed_stuffing C (4 * k) (take j client) (r * k + i) s)
      (step C (4 * k) le (r * k + i))))

  -- one more: it goes to its place
  pub one_placed : (j z : ℕ) → z < k → Client C (4 * k) (r * k + z) → count z ≡ j → set (row (take j client)) z (get_or client j 0) ≡ row (take (j + 1) client)
  one_placed j z h s e =
      let x = get_or client j 0 in
      ext_get_or 0 (set (row (take j client)) z x) (row (take (j + 1) client)) (length-set (row (take j client)) z x ∙ length_of (take j client) ∙ sym (length_of (take (j + 1) client))) (λ i q.
      let l : i < k = omega (arith, q, length-set (row (take j client)) z x, length_of (take j client)) in
      elim (dec_le (i + 1) z) [
        | yes lt ↦
            get_or-set_other (row (take j client)) z i x 0 (λ f. omega (arith, f, lt))
            ∙ alike (take j client) (take (j + 1) client) i l (λ t.
            let n : count i < j = omega (arith, e, t.count, later C (4 * k) (omega arith) le (r * k + i + 1) (r * k + z) (omega arith)) in
            get_or-take j client (count i) 0 n ∙ sym (get_or-take (j + 1) client (count i) 0 (omega arith)))
        | no ge ↦
            elim (dec_le (z + 1) i) [
              | yes gt ↦
                  get_or-set_other (row (take j client)) z i x 0 (λ f. omega (arith, f, gt))
                  ∙ alike (take j client) (take (j + 1) client) i l (λ t.
                  let n : j + 1 ≤ count i = omega (arith, e, s.count, later C (4 * k) (omega arith) le (r * k + z + 1) (r * k + i) (omega arith)) in
                  beyond client j (count i) (omega arith) ∙ sym (beyond client (j + 1) (count i) n))
              | no le' ↦
                  let same : i ≡ z = omega arith in
                  rw same
                  (get_or-set_same (row (take j client)) z x 0 (omega (arith, length_of (take j client)))
                  ∙ sym
                  (get_d_tabulate (placed C (4 * k) (take (j + 1) client)) (r * k) k z h
                  ∙ placed_client C (4 * k) (take (j + 1) client) (r * k + z) le s
                  ∙ rw e (get_or-take (j + 1) client j 0 (omega arith))))
            ]
      ])

  -- all of the row's bytes
  pub row_placed_lem : (j : ℕ) → j ≡ (r * k + k) * C / (4 * k) → row (take j client) ≡ row_bytes k r client
  row_placed_lem j e =
      ext_get_or 0 (row (take j client)) (row client) (length_of (take j client) ∙ sym (length_of client)) (λ i h.
      let l : i < k = omega (arith, h, length_of (take j client)) in
      alike (take j client) client i l (λ s. get_or-take j client (count i) 0 (omega (arith, e, in_row C k r i pos le l s))))
