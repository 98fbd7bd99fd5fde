-- How the number of client bytes grows from place to place, and so what stands in a run: client
-- bytes one after the other, between two stuffing bytes. Assumes nothing.
use mathlib.Core.Path.{◌≡◌, refl, sym, ap, subst, ◌∙◌}
use mathlib.Core.List.{List, [], ◌∷◌, ◌++◌}
use mathlib.Core.Logic.{⊎_elim}
use Prim.Native.Nat.{ℕ, suc, ◌+◌, ◌-◌, ◌*◌, ◌/◌, ◌%◌, ◌≤◌, ◌<◌}
use native.Mathlib.Nat.{add-mul, add-zero, div-lt_iff_lt-mul, div-mul-le_self, le-div_iff_mul-le, lt-div-mul-add, mul_comm, mul-div_cancel, mul-div-mul_right, lt_of_mul-lt-mul_right, mul-add, mul-le-mul_left, mul-le-mul_right, mul-mod_left, mul_right_comm, mul-zero, zero-mul}
use native.Mathlib.Decide.{dec_le}
use native.Mathlib.Omega.{arith}
use lib.Arith.{mod-mul}
use lib.ListN.{length, get_or, take, drop, set, length-append, length-drop, get_or-append}
use lib.Seq.{length-take-le, take-append-le, take_at, drop_at, get_or_at, get_or-append-add, split_at}
use Rattle.gmp_row.proofs.Rows.{row_le}
use Rattle.gmp_stuffing.specs.Copied.{copied}
use Rattle.gmp_places.specs.Places.{placed, tabulate, chosen}
use Rattle.gmp_stuffing.specs.Row.{row_bytes, row_client}
use Rattle.gmp_stuffing.proofs.Filled.{Filled, filled_none, filled_less, filled_store, filled_copy, filled_all}
use Rattle.gmp_places.proofs.Steps.{Stuffing, Client, step, count_le, count_all, placed_client, placed_stuffing, tabulate_append, length_tabulate, chosen_append, length_chosen, tabulate_more}

-- a row lies within the payload
pub row_within : (r k : ℕ) → r < 4 → r * k + k ≤ 4 * k
row_within r k h = omega (arith, row_le r k h)

-- Row r begins after r * C / 4 client bytes, with a remainder of r * C % 4 * k, and ends after
-- (r * C + C) / 4.
module _ (r k C : ℕ) (pos : 0 < k) where
  pub row_count : r * k * C / (4 * k) ≡ r * C / 4
  row_count = rw (mul_right_comm r k C, mul-div-mul_right (r * C) 4 pos)

  pub row_rest : r * k * C % (4 * k) ≡ r * C % 4 * k
  row_rest = rw (mul_right_comm r k C, mod-mul (r * C * k) {m = 4} (omega arith) pos, mul-div_cancel (r * C) pos, mul-mod_left (r * C) k, add-zero (r * C % 4 * k))

  pub row_end : (r * k + k) * C / (4 * k) ≡ (r * C + C) / 4
  row_end = rw (add-mul (r * k) k C, mul_comm k C, mul_right_comm r k C, ← add-mul (r * C) C k, mul-div-mul_right (r * C + C) 4 pos)

module _ (C S : ℕ) (pos : 0 < S) (le : C ≤ S) where
  -- no fewer client bytes come before a later place, and at most one more for each place between
  pub later : (a b : ℕ) → a ≤ b → a * C / S ≤ b * C / S
  later a b h = (le-div_iff_mul-le {x = a * C / S} pos).1 (omega (arith, div-mul-le_self (a * C) S, mul-le-mul_right C h))

  sooner : (n k : ℕ) → (n + k) * C / S ≤ n * C / S + k
  sooner n k =
      let h : (n + k) * C < (n * C / S + k + 1) * S =
      omega (arith, add-mul n k C, lt-div-mul-add {a = n * C} pos, mul-le-mul_left k le, add-mul (n * C / S + k) 1 S, add-mul (n * C / S) k S) in
      omega (arith, (div-lt_iff_lt-mul {x = (n + k) * C} pos).1 h)

  -- a place carries a client byte, or is stuffing, as the number grows by one or by none
  client_at : (n : ℕ) → (n + 1) * C / S ≡ n * C / S + 1 → Client C S n
  client_at n e = ⊎_elim (λ s. s) (λ s. absurd (omega (arith, e, s.count))) (step C S le n)

  stuffing_at : (n : ℕ) → (n + 1) * C / S ≡ n * C / S → Stuffing C S n
  stuffing_at n e = ⊎_elim (λ s. absurd (omega (arith, e, s.count))) (λ s. s) (step C S le n)

  -- where the number grows by m over m places, each of them carries a client byte
  module _ (n m : ℕ) (run : (n + m) * C / S ≡ n * C / S + m) where
    run_count : (i : ℕ) → i ≤ m → (n + i) * C / S ≡ n * C / S + i
    run_count i h =
        let e : n + i + (m - i) ≡ n + m = omega arith in
        omega (arith, run, sooner n i, rw e at (sooner (n + i) (m - i)))

    run_client : (i : ℕ) → i < m → Client C S (n + i)
    run_client i h =
        let e : n + (i + 1) ≡ n + i + 1 = omega arith in
        client_at (n + i) (omega (arith, run_count i (omega arith), rw e at (run_count (i + 1) (omega arith))))

-- the client byte of a place in row r is one of the frame's, and one of the row's
module _ (C k r i : ℕ) (pos : 0 < k) (le : C ≤ 4 * k) (h : i < k) (s : Client C (4 * k) (r * k + i)) where
  pub in_row : (r * k + i) * C / (4 * k) < (r * k + k) * C / (4 * k)
  in_row = omega (arith, s.count, later C (4 * k) (omega arith) le (r * k + i + 1) (r * k + k) (omega arith))

  pub in_frame : r < 4 → (r * k + i) * C / (4 * k) < C
  in_frame row = omega (arith, in_row, count_le C (4 * k) (r * k + k) (row_within r k row))

-- the value at a place of a table
pub get_d_tabulate : (f : ℕ → ℕ) (n k i : ℕ) → i < k → get_or (tabulate f n k) i 0 ≡ f (n + i + 1)
unfolding tabulate
get_d_tabulate f n k i h =
    let e : k ≡ i + 1 + (k - (i + 1)) = omega arith in
    let l : i < length (tabulate f n (i + 1)) = omega (arith, length_tabulate f n (i + 1)) in
    rw (e, tabulate_append f n (i + 1) (k - (i + 1)), get_or-append (tabulate f n (i + 1)) (tabulate f (n + (i + 1)) (k - (i + 1))) 0 i l, tabulate_more f n i)
    (get_or_at (tabulate f n i) (f (n + i + 1)) [] 0 i (length_tabulate f n i))

-- a row has k bytes, and nothing is placed yet in a buffer of its length
length_row : (k r : ℕ) (client : List ℕ) → length (row_bytes k r client) ≡ k
length_row k r client = length_tabulate (placed (length client) (4 * k) client) (r * k) k

pub placed_none : (r : ℕ) (client part : List ℕ) → Filled (length part) 0 (row_bytes (length part) r client) part
placed_none r client part =
    let l = length_row (length part) r client in
    filled_none (row_bytes (length part) r client) part (length part) (sym l) (sym l)

-- What is placed in row r of k bytes: from index i on a byte, stuffing, or a run of m client bytes,
-- for which a block of b is copied.
module _ (k r : ℕ) (client : List ℕ) (pos : 0 < k) (le : length client ≤ 4 * k) where
  abbrev C : ℕ
  C = length client

  -- at a place that carries a client byte
  placed_byte : (i : ℕ) → i < k → Client C (4 * k) (r * k + i) → get_or (row_bytes k r client) i 0 ≡ get_or client ((r * k + i) * C / (4 * k)) 0
  placed_byte i h s = get_d_tabulate (placed C (4 * k) client) (r * k) k i h ∙ placed_client C (4 * k) client (r * k + i) le s

  placed_zero : (i : ℕ) → i < k → Stuffing C (4 * k) (r * k + i) → get_or (row_bytes k r client) i 0 ≡ 0
  placed_zero i h s = get_d_tabulate (placed C (4 * k) client) (r * k) k i h ∙ placed_stuffing C (4 * k) client (r * k + i) s

  module _ {i : ℕ} {part : List ℕ} (v : Filled k i (row_bytes k r client) part) where
    pub place_byte : (n : ℕ) → i < k → Client C (4 * k) (r * k + i) → n ≡ (r * k + i) * C / (4 * k) → Filled k (i + 1) (row_bytes k r client) (set part i (get_or client n 0))
    place_byte n h s e = filled_store v (get_or client n 0) h (omega (arith, length_row k r client)) (placed_byte i h s ∙ rw e)

    pub place_zero : i < k → Stuffing C (4 * k) (r * k + i) → Filled k (i + 1) (row_bytes k r client) (set part i 0)
    place_zero h s = filled_store v 0 h (omega (arith, length_row k r client)) (placed_zero i h s)

    pub place_run : (n m b : ℕ) → n ≡ (r * k + i) * C / (4 * k) → (r * k + i + m) * C / (4 * k) ≡ (r * k + i) * C / (4 * k) + m → m ≤ b → i + b ≤ k → n + b ≤ C
        → Filled k (i + m) (row_bytes k r client) (copied part i client n b)
    place_run n m b e run short room there =
        filled_copy v client n b m short room (omega (arith, length_row k r client)) there (λ j h.
        let f : r * k + (i + j) ≡ r * k + i + j = omega arith in
        placed_byte (i + j) (omega arith) (rw f (run_client C (4 * k) (omega arith) le (r * k + i) m run j h))
        ∙ rw (f, run_count C (4 * k) (omega arith) le (r * k + i) m run j (omega arith), e))

-- the client byte at a place of a row is chosen behind those before it
get_d_chosen : (C S : ℕ) → C ≤ S → (n : ℕ) (p : List ℕ) (i : ℕ) → i < length p → Client C S (n + i) → get_or (chosen C S n p) ((n + i) * C / S - n * C / S) 0 ≡ get_or p i 0
unfolding chosen
get_d_chosen C S le n p i h s =
    let l : length (take i p) ≡ i = length-take-le i p (omega arith) in
    let c : length (chosen C S n (take i p)) ≡ (n + i) * C / S - n * C / S = omega (arith, rw l at (length_chosen C S le n (take i p))) in
    let all : chosen C S n p ≡ chosen C S n (take i p) ++ (get_or p i 0 ∷ chosen C S (n + i + 1) (drop (suc i) p)) =
    ap (chosen C S n) (split_at p i 0 h) ∙ chosen_append C S n (take i p) (get_or p i 0 ∷ drop (suc i) p) ∙ rw (l, s.place) in
    rw all (get_or_at (chosen C S n (take i p)) (get_or p i 0) (chosen C S (n + i + 1) (drop (suc i) p)) 0 ((n + i) * C / S - n * C / S) c)

-- What is taken out of row r, and where it stands in the buffer.
module _ (r C : ℕ) (part out : List ℕ) (pos : 0 < length part) (le : C ≤ 4 * length part) (room : C ≤ length out) (row : r < 4) where
  abbrev k : ℕ
  k = length part

  abbrev S : ℕ
  S = 4 * length part

  before_fits : r * k * C / S ≤ length out
  before_fits = omega (arith, count_le C S (r * k) (omega (arith, row_within r k row)), room)

  pub client_ends : (r * k + k) * C / S ≤ length out
  client_ends = omega (arith, count_le C S (r * k + k) (row_within r k row), room)

  -- the bytes before the row and in it end where the row's client bytes end
  ends : length (take (r * k * C / S) out ++ chosen C S (r * k) part) ≡ (r * k + k) * C / S
  ends = rw (length-append, length-take-le (r * k * C / S) out before_fits) (omega (arith, length_chosen C S le (r * k) part))

  length_client : length (row_client k r C part out) ≡ length out
  length_client = rw (length-append, ends, length-drop) (omega (arith, client_ends))

  pub taken_none : Filled ((r * k + k) * C / S) (r * k * C / S) (row_client k r C part out) out
  taken_none =
      let e : r * k * C / S ≤ (r * k + k) * C / S = later C S (omega (arith, pos)) le (r * k) (r * k + k) (omega arith) in
      record {
        same = sym length_client;
        below = sym (take-append-le (r * k * C / S) (take (r * k * C / S) out ++ chosen C S (r * k) part) (drop ((r * k + k) * C / S) out) (omega (arith, ends, e))
            ∙ take_at (take (r * k * C / S) out) (chosen C S (r * k) part) (r * k * C / S) (length-take-le (r * k * C / S) out before_fits));
        above = sym (drop_at (take (r * k * C / S) out ++ chosen C S (r * k) part) (drop ((r * k + k) * C / S) out) ((r * k + k) * C / S) ends);
      }

  taken_byte : (i : ℕ) → i < k → Client C S (r * k + i) → get_or (row_client k r C part out) ((r * k + i) * C / S) 0 ≡ get_or part i 0
  taken_byte i h s =
      let n = (r * k + i) * C / S in
      let from = r * k * C / S in
      let lt : n < (r * k + k) * C / S = in_row C k r i pos le h s in
      let up : length (take from out) + (n - from) ≡ n = omega (arith, length-take-le from out before_fits, later C S (omega (arith, pos)) le (r * k) (r * k + i) (omega arith)) in
      get_or-append (take from out ++ chosen C S (r * k) part) (drop ((r * k + k) * C / S) out) 0 n (omega (arith, ends))
      ∙ ap (λ (m : ℕ). get_or (take from out ++ chosen C S (r * k) part) m 0) (sym up)
      ∙ get_or-append-add (take from out) (chosen C S (r * k) part) (n - from) 0
      ∙ get_d_chosen C S le (r * k) part i h s

  -- a buffer that is filled so far has the same target as the one at the start
  pub target_kept : {n : ℕ} {buffer : List ℕ} → Filled ((r * k + k) * C / S) n (row_client k r C part out) buffer → r * k * C / S ≤ n
      → row_client k r C part buffer ≡ row_client k r C part out
  target_kept v h =
      let none = taken_none in
      let front = (filled_less v (r * k * C / S) h).below ∙ sym none.below in
      let behind = v.above ∙ sym none.above in
      rw (front, behind)

  room_ends : (r * k + k) * C / S ≤ length (row_client k r C part out)
  room_ends = omega (arith, client_ends, length_client)

  module _ (i : ℕ) {n : ℕ} {buffer : List ℕ} (v : Filled ((r * k + k) * C / S) n (row_client k r C part out) buffer) (e : n ≡ (r * k + i) * C / S) where
    pub take_byte : i < k → Client C S (r * k + i) → Filled ((r * k + k) * C / S) (n + 1) (row_client k r C part out) (set buffer n (get_or part i 0))
    take_byte h s = filled_store v (get_or part i 0) (omega (arith, e, in_row C k r i pos le h s)) room_ends (rw e (taken_byte i h s))

    pub take_run : (m b : ℕ) → (r * k + i + m) * C / S ≡ (r * k + i) * C / S + m → m ≤ b → i + b ≤ k → n + b ≤ (r * k + k) * C / S
        → Filled ((r * k + k) * C / S) (n + m) (row_client k r C part out) (copied buffer n part i b)
    take_run m b run short there room =
        filled_copy v part i b m short room room_ends there (λ j h.
        let f : r * k + (i + j) ≡ r * k + i + j = omega arith in
        let c = run_count C S (omega (arith, pos)) le (r * k + i) m run j (omega arith) in
        rw (e, ← c, ← f) (taken_byte (i + j) (omega arith) (rw f (run_client C S (omega (arith, pos)) le (r * k + i) m run j h))))

-- With as many client bytes as payload bytes there is no stuffing: each row is one run.
whole : (S n k : ℕ) → n + k ≤ S → (n + k) * S / S ≡ n * S / S + k
whole S n k h = rw (mul_comm (n + k) S, mul_comm n S, count_all (n + k) S h, count_all n S (omega arith))

pub full_placed : (r : ℕ) (client part : List ℕ) → length client ≡ 4 * length part → r < 4 → copied part 0 client (r * length part) (length part) ≡ row_bytes (length part) r client
unfolding tabulate
full_placed r client [] e row = refl
full_placed r client (b ∷ p) e row =
    let part = b ∷ p in
    let k = length part in
    let z : r * k + 0 ≡ r * k = omega arith in
    let n : r * k ≡ (r * k + 0) * length client / (4 * k) = rw (z, e, mul_comm (r * k) (4 * k), count_all (r * k) (4 * k) (omega (arith, row_within r k row))) in
    let run : (r * k + 0 + k) * length client / (4 * k) ≡ (r * k + 0) * length client / (4 * k) + k = rw e (whole (4 * k) (r * k + 0) k (omega (arith, row_within r k row))) in
    filled_all (place_run k r client (omega arith) (omega (arith, e)) (placed_none r client part) (r * k) k k n run (omega arith) (omega arith) (omega (arith, e, row_within r k row))) (omega arith)

pub full_taken : (r C : ℕ) (part out : List ℕ) → C ≡ 4 * length part → C ≤ length out → r < 4 → copied out (r * length part) part 0 (length part) ≡ row_client (length part) r C part out
unfolding chosen
full_taken r C [] out e room row = rw (mul-zero r, zero-mul C)
full_taken r C (b ∷ p) out e room row =
    let part = b ∷ p in
    let k = length part in
    let z : r * k + 0 ≡ r * k = omega arith in
    let n : r * k ≡ (r * k + 0) * C / (4 * k) = rw (z, e, mul_comm (r * k) (4 * k), count_all (r * k) (4 * k) (omega (arith, row_within r k row))) in
    let run : (r * k + 0 + k) * C / (4 * k) ≡ (r * k + 0) * C / (4 * k) + k = rw e (whole (4 * k) (r * k + 0) k (omega (arith, row_within r k row))) in
    let begin : r * k * C / (4 * k) ≡ r * k = rw z at (sym n) in
    let none = subst (λ (m : ℕ). Filled ((r * k + k) * C / (4 * k)) m (row_client k r C part out) out) begin (taken_none r C part out (omega arith) (omega (arith, e)) room row) in
    let end : r * k + k ≡ (r * k + k) * C / (4 * k) = omega (arith, n, rw z at run) in
    filled_all (take_run r C part out (omega arith) (omega (arith, e)) room row 0 none n k k run (omega arith) (omega arith) (omega (arith, end))) end

-- Where stuffing stands. D is the number of stuffing bytes: as many are there among the first n
-- places as n * D / S, rounded up.
module _ (C D S : ℕ) (sum : C + D ≡ S) (pos : 0 < S) where
  all : (n : ℕ) → n * C + n * D ≡ n * S
  all n = rw (← mul-add n C D, sum)

  -- at most t of them, and more than t
  at_most : (n t : ℕ) → n * D ≤ t * S → n ≤ t + n * C / S
  at_most n t h =
      let l : n * S < (t + n * C / S + 1) * S = omega (arith, all n, lt-div-mul-add {a = n * C} pos, add-mul (t + n * C / S) 1 S, add-mul t (n * C / S) S) in
      omega (arith, lt_of_mul-lt-mul_right S l)

  more_than : (n t : ℕ) → t * S < n * D → t + n * C / S < n
  more_than n t h = lt_of_mul-lt-mul_right S (omega (arith, all n, div-mul-le_self (n * C) S, add-mul t (n * C / S) S))

  -- the next stuffing byte after place n, with t before it, is at place N + 1 where t * S / D is N
  module _ (n t : ℕ) (count : t + n * C / S ≡ n) where
    pub none_before : (N : ℕ) → N * D ≤ t * S → n ≤ N → N * C / S ≡ n * C / S + (N - n)
    none_before N h le =
        let e : n + (N - n) ≡ N = omega arith in
        omega (arith, count, at_most N t h, rw e at (sooner C S pos (omega (arith, sum)) n (N - n)))

    module _ (N : ℕ) (low : N * D ≤ t * S) (high : t * S < (N + 1) * D) where
      pub comes_after : n ≤ N
      comes_after =
          elim (dec_le n N) [
            | yes h ↦ h
            | no h ↦ let g : N + 1 ≤ n = omega arith in absurd (omega (arith, count, more_than n t (omega (arith, high, mul-le-mul_right D g))))
          ]

      pub stands : Stuffing C S N
      stands =
          stuffing_at C S pos (omega (arith, sum)) N
          (omega (arith, at_most N t low, more_than (N + 1) t high, later C S pos (omega (arith, sum)) N (N + 1) (omega arith)))

  -- a run has at most b client bytes, where the frame's are at most b times the stuffing bytes
  pub run_short : (n m b : ℕ) → (n + m) * C / S ≡ n * C / S + m → C ≤ b * D → m ≤ b
  run_short n m b run le =
      let l : m * D < (b + 1) * D =
      omega (arith, rw run at (div-mul-le_self ((n + m) * C) S), add-mul (n * C / S) m S, add-mul n m C, lt-div-mul-add {a = n * C} pos, all m, sum, add-mul b 1 D) in
      omega (arith, lt_of_mul-lt-mul_right D l)

-- where a client byte stands: j come before place N + 1
pub client_stands : (C S : ℕ) → 0 < S → C ≤ S → (N j : ℕ) → N * C < (j + 1) * S → (j + 1) * S ≤ (N + 1) * C → Client C S N × (N * C / S ≡ j)
client_stands C S pos le N j low high =
    let a : N * C / S < j + 1 = (div-lt_iff_lt-mul {x = N * C} pos).1 low in
    let b : j + 1 ≤ (N + 1) * C / S = (le-div_iff_mul-le {x = j + 1} pos).1 high in
    let c = sooner C S pos le N 1 in
    (client_at C S pos le N (omega (arith, a, b, c)), omega (arith, a, b, c))
