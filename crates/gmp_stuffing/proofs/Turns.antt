-- A turn of a loop from payload byte to payload byte, from stuffing byte to stuffing byte, or from
-- client byte to client byte: where the next one stands, what lies between, and what the sums are
-- after it. Assumes nothing.
use mathlib.Core.Path.{◌≡◌, refl}
use mathlib.Core.List.{List}
use Prim.Native.Nat.{ℕ, ◌+◌, ◌-◌, ◌*◌, ◌/◌, ◌%◌, ◌≤◌, ◌<◌}
use native.Mathlib.Nat.{add-mul, div-le_self, div-lt_iff_lt-mul, div-mul-le_self, le-div_iff_mul-le, lt-div-mul-add, mod-lt, lt_of_mul-lt-mul_right, mul-add, mul_assoc, mul_comm, mul_left_comm, mul_right_comm, mul-le-mul, mul-le-mul_left, mul-le-mul_right}
use native.Mathlib.Omega.{arith}
use lib.ListN.{length, set}
use mir.Syntax.{w64}
use mir.Val.{Fits}
use Rattle.gmp_stuffing.specs.Copied.{copied}
use Rattle.gmp_stuffing.specs.Row.{row_bytes, row_client}
use Rattle.gmp_places.proofs.Steps.{Stuffing, Client, step_client, step_stuffing, count_le}
use Rattle.gmp_stuffing.proofs.Parts.{up_least, up_most, down_least, down_most}
use Rattle.gmp_row.specs.declared.RowRuns.{RowRuns}
use Rattle.gmp_row.specs.Row.{Told, RunsOf}
use Rattle.gmp_row.proofs.Rows.{U}
use Rattle.gmp_stuffing.proofs.Runs.{row_within, row_count, row_rest, later, run_short, none_before, comes_after, stands, client_stands, place_run, place_zero, target_kept, take_run}
use Rattle.gmp_stuffing.proofs.Filled.{Filled, filled_all}

-- A step from byte to byte: at bytes of row r are done, used client bytes came so far, and rest is
-- the remainder by which the rule tells the next.
pub record Step (k C r at used rest : ℕ) : Type 0 where
  pub within : at ≤ k
  pub count : used ≡ (r * k + at) * C / (4 * k)
  pub left : rest ≡ (r * k + at) * C % (4 * k)

module _ (k C r : ℕ) (pos : 0 < k) (le : C ≤ 4 * k) where
  pub step_row : Step k C r 0 (r * C / 4) (r * C % 4 * k)
  step_row =
      let z : r * k + 0 ≡ r * k = omega arith in
      record { within = omega arith; count = rw (z, row_count r k C pos); left = rw (z, row_rest r k C pos) }

  module _ {at used rest : ℕ} (v : Step k C r at used rest) where
    below : rest < 4 * k
    below = rw v.left (mod-lt ((r * k + at) * C) {m = 4 * k} (omega arith))

    to : r * k + (at + 1) ≡ r * k + at + 1
    to = omega arith

    pub next_client : at < k → 4 * k ≤ rest + C → Client C (4 * k) (r * k + at) × Step k C r (at + 1) (used + 1) (rest + C - 4 * k)
    next_client lt h =
        let s = step_client C (4 * k) le (r * k + at) (omega arith) (omega (arith, v.left)) in
        (s, record { within = omega arith; count = rw (to, s.count) (omega (arith, v.count)); left = rw (to, s.rest) (omega (arith, v.left)) })

    pub next_stuffing : at < k → rest + C < 4 * k → Stuffing C (4 * k) (r * k + at) × Step k C r (at + 1) used (rest + C)
    next_stuffing lt h =
        let s = step_stuffing C (4 * k) le (r * k + at) (omega (arith, v.left)) in
        (s, record { within = omega arith; count = rw (to, s.count) v.count; left = rw (to, s.rest) (omega (arith, v.left)) })

    -- the sums stay within 64 bits
    pub rest_word : k < 4294967296 → Fits w64 (rest + C)
    rest_word near = omega (arith, below)

-- at bytes of row r are done, used client bytes came so far, and the next stuffing byte stands at x
-- parts. D is the number of stuffing bytes of the frame; those before it are w / 4 more than the
-- r * D / 4 of the row's start.
pub record Ahead (k C D r at used x : ℕ) : Type 0 where
  pub all : C + D ≡ 4 * k
  pub some : 0 < D
  pub near : k < 131072
  pub w : ℕ
  pub within : at ≤ k
  pub low : w < D + 4
  pub sum : w + r * D + 4 * used ≡ 4 * (r * k + at)
  pub place : x ≡ w * (k * U / D + 1)
  pub count : used ≡ (r * k + at) * C / (4 * k)

-- the stuffing byte stands at index x / U, all bytes from at up to there are client bytes, and then
-- the next one is ahead
pub record Turn (k C D r at used x : ℕ) : Type 0 where
  pub after : at ≤ x / U
  pub run : (r * k + at + (x / U - at)) * C / (4 * k) ≡ (r * k + at) * C / (4 * k) + (x / U - at)
  pub stuffing : Stuffing C (4 * k) (r * k + x / U)
  pub next : Ahead k C D r (x / U + 1) (used + (x / U - at)) (x + 4 * (k * U / D + 1))

-- a block of b bytes for a run of m from at on has room in the row and among its client bytes
pub record Room (k C r at used m b : ℕ) : Type 0 where
  pub short : m ≤ b
  pub row : at + b ≤ k
  pub client : used + b ≤ (r * k + k) * C / (4 * k)

small : (k C D w : ℕ) → C + D ≡ 4 * k → k < 131072 → w < D + 4 → w * D < U
small k C D w all near h =
    let a : w ≤ 524292 = omega (arith, all) in
    let b : D ≤ 524288 = omega (arith, all) in
    omega (arith, mul-le-mul a b)

-- at the start of the row, with t stuffing bytes before it
pub ahead_row : (k C D r t : ℕ) → C + D ≡ 4 * k → 0 < D → k < 131072 → t ≡ (r * D + 3) / 4
    → (t ≤ r * k) × Ahead k C D r 0 (r * k + 0 - t) ((4 * t - r * D) * (k * U / D + 1))
ahead_row k C D r t all some near e =
    let s : D + C ≡ 4 * k = omega (arith, all) in
    let four : r * D + r * C ≡ 4 * (r * k) = rw (← mul-add r D C, s, mul_left_comm r 4 k) in
    let z : r * k + 0 ≡ r * k = omega arith in (
      omega (arith, four, e),
      record {
        all = all;
        some = some;
        near = near;
        w = 4 * t - r * D;
        within = omega arith;
        low = omega (arith, e);
        sum = omega (arith, four, e);
        place = refl;
        count = rw (z, row_count r k C (omega (arith, all))) (omega (arith, four, e));
      },
    )

module _ {k C D r at used x : ℕ} (v : Ahead k C D r at used x) where
  abbrev n : ℕ
  n = r * k + at

  -- the stuffing bytes before it in the frame
  abbrev t : ℕ
  t = n - used

  before : t + n * C / (4 * k) ≡ n
  before = omega (arith, v.sum, v.count)

  -- its place in the frame, t * 4k / D, is w * k / D behind the row's start
  place_of : t * (4 * k) ≡ r * k * D + v.w * k
  place_of =
      let e : t * 4 ≡ v.w + r * D = omega (arith, v.sum) in
      rw (← mul_assoc t 4 k, e, add-mul v.w (r * D) k, mul_right_comm r k D) (omega arith)

  pub turn : x / U < k → Turn k C D r at used x
  turn inside =
      let z = x / U in
      let least : z * U ≤ v.w * (k * U / D + 1) = omega (arith, v.place, div-mul-le_self x U) in
      let most : v.w * (k * U / D + 1) < (z + 1) * U = omega (arith, v.place, lt-div-mul-add {a = x} {b = U} (omega arith), add-mul z 1 U) in
      let high : v.w * k < (z + 1) * D = up_most k D v.w (z + 1) v.some most in
      let low : (r * k + z) * D ≤ t * (4 * k) = omega (arith, place_of, add-mul (r * k) z D, up_least k D v.w z v.some (small k C D v.w v.all v.near v.low) least) in
      let next : t * (4 * k) < (r * k + z + 1) * D = omega (arith, place_of, add-mul (r * k + z) 1 D, add-mul (r * k) z D, add-mul z 1 D, high) in
      let after : n ≤ r * k + z = comes_after C D (4 * k) v.all (omega (arith, v.all)) n t before (r * k + z) low next in
      let stuffing = stands C D (4 * k) v.all (omega (arith, v.all)) n t before (r * k + z) low next in
      let run = none_before C D (4 * k) v.all (omega (arith, v.all)) n t before (r * k + z) low after in
      let e : n + (z - at) ≡ r * k + z = omega (arith, after) in
      let fewer : v.w < D = let l : z + 1 ≤ k = omega arith in lt_of_mul-lt-mul_right k (omega (arith, high, mul-le-mul_right D l, mul_comm k D)) in
      let to : r * k + (z + 1) ≡ r * k + z + 1 = omega arith in
      record {
        after = omega (arith, after);
        run = rw e (omega (arith, run));
        stuffing = stuffing;
        next = record {
          all = v.all;
          some = v.some;
          near = v.near;
          w = v.w + 4;
          within = omega arith;
          low = omega arith;
          sum = omega (arith, v.sum, after);
          place = omega (arith, v.place, add-mul v.w 4 (k * U / D + 1));
          count = rw (to, stuffing.count) (omega (arith, run, v.count, after));
        };
      }

  -- where it stands in a later row, all bytes up to the row's end are client bytes
  pub last : k ≤ x / U → (n + (k - at)) * C / (4 * k) ≡ n * C / (4 * k) + (k - at)
  last h =
      let parts : k * U ≤ x = (le-div_iff_mul-le {k = U} {x = k} (omega arith)).0 h in
      let least : k * D ≤ v.w * k = up_least k D v.w k v.some (small k C D v.w v.all v.near v.low) (omega (arith, v.place, parts)) in
      let low : (r * k + k) * D ≤ t * (4 * k) = omega (arith, place_of, add-mul (r * k) k D, least) in
      let e : n + (k - at) ≡ r * k + k = omega (arith, v.within) in
      rw e (omega (arith, none_before C D (4 * k) v.all (omega (arith, v.all)) n t before (r * k + k) low (omega (arith, v.within)), v.within))

  -- the sums stay within 64 bits
  pub hop_word : x / U < k → Fits w64 (x + 4 * (k * U / D + 1))
  hop_word h = omega (arith, (div-lt_iff_lt-mul {k = U} {x = x} (omega arith)).0 h, div-le_self (k * U) D, v.near)

  -- Half as many bytes again as b hold b client bytes, where these are more than two thirds: a
  -- block for the run has room, in the row and among its client bytes.
  pub block_room : (b : ℕ) → 8 * k < 3 * C → C ≤ b * D → 2 * (x / U) + 3 * b < 2 * k → Room k C r at used (x / U - at) b
  block_room b many long h =
      let y = k - at in
      let t = turn (omega arith) in
      let more : 3 * b ≤ 2 * y = omega (arith, t.after) in
      let most : 8 * k ≤ 3 * C = omega arith in
      let bytes : b * (4 * k) ≤ y * C =
      omega (arith, mul-le-mul_right C more, mul_assoc 3 b C, mul_assoc 2 y C, mul-le-mul_left b most, mul_left_comm b 3 C, mul_left_comm b 8 k, mul_left_comm b 4 k) in
      let e : n + y ≡ r * k + k = omega (arith, v.within) in
      let so_far : used * (4 * k) ≤ n * C = rw v.count (div-mul-le_self (n * C) (4 * k)) in
      record {
        short = run_short C D (4 * k) v.all (omega (arith, v.all)) n (x / U - at) b t.run long;
        row = omega (arith, t.after);
        client = (le-div_iff_mul-le {k = 4 * k} {x = used + b} (omega (arith, v.all))).1 (omega (arith, bytes, rw e at (add-mul n y C), add-mul used b (4 * k), so_far));
      }

  -- and so has the run alone, and the last one of the row
  alone : (m : ℕ) → at + m ≤ k → (n + m) * C / (4 * k) ≡ n * C / (4 * k) + m → Room k C r at used m m
  alone m h run = record {
    short = omega arith;
    row = h;
    client = omega (arith, v.count, run, later C (4 * k) (omega (arith, v.all)) (omega (arith, v.all)) (n + m) (r * k + k) (omega arith));
  }

  pub run_room : x / U < k → Room k C r at used (x / U - at) (x / U - at)
  run_room h = let t = turn h in alone (x / U - at) (omega (arith, t.after)) t.run

  pub last_room : k ≤ x / U → Room k C r at used (k - at) (k - at)
  last_room h = alone (k - at) (omega (arith, v.within)) (last h)

-- With t stuffing bytes so far the client bytes are the others, also after the turn.
pub used_next : {k C D r at t x : ℕ} → Ahead k C D r at (r * k + at - t) x → t ≤ r * k + at → x / U < k → r * k + at - t + (x / U - at) ≡ r * k + (x / U + 1) - (t + 1)
used_next v le h = omega (arith, (turn v h).after)

-- Such turns by the numbers that a row is told: what placing and taking by them share.
module _ {k c r : ℕ} {row : RowRuns} (s : RunsOf k c r row) where
  pub begins : Told k c r → (row.before ≤ r * k) × Ahead k c (4 * k - c) r 0 (r * k + 0 - row.before) row.parts
  begins told =
      let a = ahead_row k c (4 * k - c) r row.before (omega arith) (omega arith) told.2 s.before in
      (a.0, rw s.parts a.1)

  -- below stop the stuffing byte stands in the row
  pub inside : {x : ℕ} → x < row.stop → x / U < k
  inside {x} h = omega (arith, (s.blocks x h).1)

  module _ {at used x : ℕ} (v : Ahead k c (4 * k - c) r at used x) where
    -- and a block has room
    pub block : 8 * k < 3 * c → x < row.stop → Room k c r at used (x / U - at) row.width
    block many h = let e = s.blocks x h in block_room v row.width many e.0 e.1

    pub hop_fits : x / U < k → Fits w64 (x + row.hop)
    hop_fits h = rw s.hop (hop_word v h)

    pub hopped : x / U < k → Ahead k c (4 * k - c) r (x / U + 1) (used + (x / U - at)) (x + row.hop)
    hopped h = rw s.hop (turn v h).next

  -- With t stuffing bytes so far the client bytes are the others, also after the turn.
  pub counted : {at t x : ℕ} → t ≤ r * k + at → Ahead k c (4 * k - c) r at (r * k + at - t) x → x / U < k
      → (t + 1 ≤ r * k + (x / U + 1)) × Ahead k c (4 * k - c) r (x / U + 1) (r * k + (x / U + 1) - (t + 1)) (x + row.hop)
  counted le v h = (omega (arith, (turn v h).after), rw (← used_next v le h) (hopped v h))

-- Placing and taking by such turns: what the buffer holds after a block of b bytes for the run.
pub in_client : {k C r at used m b : ℕ} → r < 4 → Room k C r at used m b → used + b ≤ C
in_client {k} {C} {r} row q = omega (arith, q.client, count_le C (4 * k) (r * k + k) (row_within r k row))

module _ (client : List ℕ) {k D r at used x : ℕ} {part : List ℕ} (v : Ahead k (length client) D r at used x) (f : Filled k at (row_bytes k r client) part) (row : r < 4) where
  pub place_turn : (b : ℕ) → x / U < k → Room k (length client) r at used (x / U - at) b → Filled k (x / U + 1) (row_bytes k r client) (set (copied part at client used b) (x / U) 0)
  place_turn b h q =
      let t = turn v h in
      let e : at + (x / U - at) ≡ x / U = omega (arith, t.after) in
      let w = rw e at (place_run k r client (omega arith) (omega (arith, v.all)) f used (x / U - at) b v.count t.run q.short q.row (in_client row q)) in
      place_zero k r client (omega arith) (omega (arith, v.all)) w h t.stuffing

  pub place_last : k ≤ x / U → copied part at client used (k - at) ≡ row_bytes k r client
  place_last h =
      let q = last_room v h in
      let w = place_run k r client (omega (arith, v.all, v.some)) (omega (arith, v.all)) f used (k - at) (k - at) v.count (last v h) q.short q.row (in_client row q) in
      filled_all w (omega (arith, v.within))

module _ (part out : List ℕ) {C D r at used x : ℕ} {buffer : List ℕ} (v : Ahead (length part) C D r at used x)
    (f : Filled ((r * length part + length part) * C / (4 * length part)) used (row_client (length part) r C part out) buffer) (room : C ≤ length out) (row : r < 4) where
  abbrev k : ℕ
  k = length part

  taken : (m b : ℕ) → (r * k + at + m) * C / (4 * k) ≡ (r * k + at) * C / (4 * k) + m → Room k C r at used m b
      → Filled ((r * k + k) * C / (4 * k)) (used + m) (row_client k r C part out) (copied buffer used part at b)
  taken m b run q = take_run r C part out (omega (arith, v.all, v.some)) (omega (arith, v.all)) room row at f v.count m b run q.short q.row q.client

  pub take_turn : (b : ℕ) → x / U < k → Room k C r at used (x / U - at) b
      → Filled ((r * k + k) * C / (4 * k)) (used + (x / U - at)) (row_client k r C part out) (copied buffer used part at b)
  take_turn b h q = taken (x / U - at) b (turn v h).run q

  pub take_last : k ≤ x / U → copied buffer used part at (k - at) ≡ row_client k r C part out
  take_last h =
      let e : r * k + at + (k - at) ≡ r * k + k = omega (arith, v.within) in
      filled_all (taken (k - at) (k - at) (last v h) (last_room v h)) (omega (arith, v.count, rw e at (last v h)))

  -- and what is to be left in the buffer is still the same
  pub take_on : row_client k r C part buffer ≡ row_client k r C part out
  take_on =
      target_kept r C part out (omega (arith, v.all, v.some)) (omega (arith, v.all)) room row f
      (omega (arith, v.count, later C (4 * k) (omega (arith, v.all, v.some)) (omega (arith, v.all)) (r * k) (r * k + at) (omega arith)))

-- j client bytes came before the next, which stands at x parts; with it they are w / 4 more than
-- the r * C / 4 of the row's start.
pub record Single (k C r j x : ℕ) : Type 0 where
  pub w : ℕ
  pub sum : w + r * C ≡ 4 * (j + 1)
  pub place : x + 1 ≡ w * (k * U / C)

-- it stands at index x / U
pub record Found (k C r j x : ℕ) : Type 0 where
  pub inside : x / U < k
  pub client : Client C (4 * k) (r * k + x / U)
  pub count : (r * k + x / U) * C / (4 * k) ≡ j
  pub next : Single k C r (j + 1) (x + 4 * (k * U / C))
  pub word : Fits w64 (x + 4 * (k * U / C))

module _ (k C r : ℕ) (pos : 0 < C) (le : C ≤ 4 * k) (near : k < 131072) where
  -- the row's first
  pub single_row : (x : ℕ) → x + 1 ≡ (4 - r * C % 4) * (k * U / C) → Single k C r (r * C / 4) x
  single_row x e = record { w = 4 - r * C % 4; sum = omega arith; place = e }

  pub found : {j x : ℕ} → Single k C r j x → j < (r * C + C) / 4 → Found k C r j x
  found {j} {x} v more =
      let z = x / U in
      let few : v.w ≤ C = omega (arith, v.sum, more) in
      let small : v.w * C < U = let c : C ≤ 524288 = omega arith in let w : v.w ≤ 524288 = omega arith in omega (arith, mul-le-mul w c) in
      let least : z * U < v.w * (k * U / C) = omega (arith, v.place, div-mul-le_self x U) in
      let most : v.w * (k * U / C) ≤ (z + 1) * U = omega (arith, v.place, lt-div-mul-add {a = x} {b = U} (omega arith), add-mul z 1 U) in
      let four : (j + 1) * 4 ≡ v.w + r * C = omega (arith, v.sum) in
      let e : (j + 1) * (4 * k) ≡ r * k * C + v.w * k = rw (← mul_assoc (j + 1) 4 k, four, add-mul v.w (r * C) k, mul_right_comm r k C) (omega arith) in
      let first : z * C < v.w * k = down_least k C v.w z pos least in
      let low : (r * k + z) * C < (j + 1) * (4 * k) = omega (arith, e, add-mul (r * k) z C, first) in
      let high : (j + 1) * (4 * k) ≤ (r * k + z + 1) * C = omega (arith, e, add-mul (r * k + z) 1 C, add-mul (r * k) z C, add-mul z 1 C, down_most k C v.w (z + 1) pos small most) in
      let (client, count) = client_stands C (4 * k) (omega arith) le (r * k + z) j low high in
      let inside : z < k = lt_of_mul-lt-mul_right C (omega (arith, first, mul-le-mul_right k few, mul_comm k C)) in
      record {
        inside = inside;
        client = client;
        count = count;
        next = record { w = v.w + 4; sum = omega (arith, v.sum); place = omega (arith, v.place, add-mul v.w 4 (k * U / C)) };
        word = omega (arith, most, v.place, inside, div-le_self (k * U) C, near);
      }
