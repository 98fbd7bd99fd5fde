-- Bytes that are read behind those that were moved to the front of a block. Assumes nothing.
use mathlib.Core.Path.{◌≡◌, refl, sym, ap, subst, ◌∙◌}
use mathlib.Core.Logic.{◌⊎◌, ⊎_elim}
use mathlib.Core.List.{List, ◌++◌}
use Prim.Native.Nat.{ℕ, ◌+◌, ◌-◌, ◌≤◌, ◌<◌}
use native.Mathlib.Nat.{add-zero, sub-zero}
use native.Mathlib.Omega.{arith}
use lib.ListN.{length, take, drop, length-drop, length-append}
use borrow.Rule.Slice.PartMut.{post_of, put_mid, take_put}
use lib.Seq.{take-add, drop-drop, drop_at, take-append-add, take-append-le, length-take-le, take-length, take-take, take_at}
use Rattle.program_stream.specs.declared.Why.{Why}
use Rattle.program_stream.specs.declared.Why.TheVariants.{Ended, Unread, Unwritten}
use Rattle.program_stream.specs.declared.Stop.{Stop}
use Rattle.program_stream.specs.declared.Held.{Held}
use Rattle.program_keep.specs.Keep.{between, Keeps}
use Rattle.program_stream.specs.Gather.{held_bytes, Has, Holds, Left, StopsReading, Stops, IsUnwritten, EndsFor}

-- So many bytes have been read behind the first ones, which stay.
pub record Reading (start : List ℕ) (have : ℕ) (block : List ℕ) (end : ℕ) : Type 0 where
  pub behind : have ≤ end
  pub within : end ≤ length block
  pub size : length block ≡ length start
  pub first : take have block ≡ take have start

pub reading_start : (start : List ℕ) (have : ℕ) → have ≤ length start → Reading start have start have
reading_start start have h = record { behind = omega arith; within = h; size = refl; first = refl }

module _ (start : List ℕ) (have : ℕ) (block : List ℕ) (end : ℕ) (r : Reading start have block end) where
  pub reading_next : (k n : ℕ) (new : List ℕ) → end + n ≤ length block → length (put_mid end k block new) ≡ length block
      → Reading start have (put_mid end k block new) (end + n)
  reading_next k n new h l =
      let after = put_mid end k block new in
      record {
        behind = omega (arith, r.behind);
        within = omega (arith, l);
        size = l ∙ r.size;
        first =
            sym (take-take have end after r.behind) ∙ ap (take have) (take_put end k block new r.within)
            ∙ take-take have end block r.behind ∙ r.first;
      }

  -- the bytes that were there are the first of them
  first_read : take (length (take have start)) (take end block) ≡ take have start
  first_read =
      let n : length (take have start) ≡ have = length-take-le have start (omega (arith, r.behind, r.within, r.size)) in
      ap (λ (i : ℕ). take i (take end block)) n ∙ take-take have end block r.behind ∙ r.first

  -- what is enough, or all that the block has room for
  pub filled : (least : ℕ) → (least ≤ end) ⊎ (length block ≤ end) → Holds (take have start) least (record { at = 0; end = end }) block
  filled least h =
      record {
        order = omega arith;
        within = r.within;
        enough = λ room. ⊎_elim (λ e. omega (arith, e)) (λ e. omega (arith, e, room)) h;
        whole = λ none. ⊎_elim (λ e. absurd (omega (arith, e, none, r.within))) (λ e. omega (arith, e, r.within)) h;
        first = ap (λ (i : ℕ). take (length (take have start)) (take i block)) (sub-zero end) ∙ first_read;
      }

-- what is left where the input ended
left_over : (start : List ℕ) (have : ℕ) (block : List ℕ) (end : ℕ) (r : Reading start have block end) (least : ℕ) → end < least → Left (take have start) least end block
left_over start have block end r least h = record { few = h; within = r.within; first = first_read start have block end r }

pub ended_stops : (start : List ℕ) (have : ℕ) (block : List ℕ) (end : ℕ) (r : Reading start have block end) (k : ℕ) (new : List ℕ)
    → length (put_mid end k block new) ≡ length block → (least : ℕ) → end < least → (s : Stop) → s.why ≡ Ended end
    → StopsReading (take have start) least s.why (put_mid end k block new)
ended_stops start have block end r k new l least h s e =
    let after = put_mid end k block new in
    let read = reading_next start have block end r k 0 new (omega (arith, r.within)) l in
    let rest : Left (take have start) least end after = subst (λ (i : ℕ). Left (take have start) least i after) (add-zero end) (left_over start have after (end + 0) read least (omega arith)) in
    subst (λ (w : Why). StopsReading (take have start) least w after) (sym e) rest

pub unread_stops : (old : List ℕ) (least : ℕ) (after : List ℕ) (s : Stop) → s.why ≡ Unread → StopsReading old least s.why after
unread_stops old least after s e = subst (λ (w : Why). StopsReading old least w after) (sym e) tt

-- what is held already, where it is enough
pub held_on : (block : List ℕ) (h : Held) (least : ℕ) → h.at ≤ h.end → h.end ≤ length block → least ≤ h.end - h.at
    → Holds (held_bytes h block) least h block
held_on block h least order within enough =
    record {
      order = order;
      within = within;
      enough = λ room. enough;
      whole = λ none. absurd (omega (arith, enough, within, none));
      first = take-length (held_bytes h block);
    }

-- what is held is enough where the block has room for it
pub has_enough : (old : List ℕ) (least : ℕ) (h : Held) (after : List ℕ) → Holds old least h after → least ≤ length after → Has least h after
has_enough old least h after p room = record { order = p.order; within = p.within; enough = p.enough room }

-- a reading that stops is one way in which a turn stops, and a turn that stops one in which a run
-- ends
pub reading_stops : (old : List ℕ) (least : ℕ) (w : Why) (after : List ℕ) → StopsReading old least w after → Stops old least w after
reading_stops old least (Ended n) after p = p
reading_stops old least Unread after p = tt
reading_stops old least Unwritten after p = absurd p

pub stop_ends : (old : List ℕ) (least : ℕ) (w : Why) (after : List ℕ) → Stops old least w after → EndsFor least w
stop_ends old least (Ended n) after p = p.few
stop_ends old least Unread after p = tt
stop_ends old least Unwritten after p = tt

pub unwritten_stops : (old : List ℕ) (least : ℕ) (s : Stop) (after : List ℕ) → IsUnwritten s → Stops old least s.why after
unwritten_stops old least s after e = subst (λ (w : Why). Stops old least w after) (sym e) tt

-- what was moved to the front, before more is read behind it
module _ (block : List ℕ) (at end n : ℕ) (after : List ℕ) (k : Keeps block at end n after) where
  pub kept_within : n ≤ length after
  kept_within = omega (arith, k.number, ap length k.bytes, length-append (between at end block) (drop n block))

  pub kept_first : take n after ≡ between at end block
  kept_first = ap (take n) k.bytes ∙ take_at (between at end block) (drop n block) n (sym k.number)

-- the number of bytes held, and those behind the first n of them
pub held_length : (block : List ℕ) (h : Held) → h.end ≤ length block → length (held_bytes h block) ≡ h.end - h.at
held_length block h within =
    length-take-le (h.end - h.at) (drop h.at block) (omega (arith, length-drop h.at block))

pub held_behind : (block : List ℕ) (h : Held) (n : ℕ) → h.end ≤ length block → n ≤ length (held_bytes h block)
    → held_bytes (record { at = h.at + n; end = h.end }) block ≡ drop n (held_bytes h block)
held_behind block h n within few =
    let from = drop h.at block in
    let size = held_length block h within in
    let both : h.end - h.at ≡ n + (h.end - (h.at + n)) = omega arith in
    let split : held_bytes h block ≡ take n from ++ take (h.end - (h.at + n)) (drop n from) = ap (λ (i : ℕ). take i from) both ∙ take-add n (h.end - (h.at + n)) from in
    ap (take (h.end - (h.at + n))) (sym (drop-drop n h.at block))
    ∙ sym (ap (drop n) split ∙ drop_at (take n from) _ n (length-take-le n from (omega (arith, length-drop h.at block))))

-- bytes put behind the first ones of a buffer
pub put_behind : (buffer new : List ℕ) (at k n : ℕ) → at ≤ length buffer → n ≤ length new → take (at + n) (put_mid at k buffer new) ≡ take at buffer ++ take n new
put_behind buffer new at k n h l =
    ap (λ (i : ℕ). take (i + n) (put_mid at k buffer new)) (sym (length-take-le at buffer h))
    ∙ take-append-add (take at buffer) (new ++ post_of at k buffer) n
    ∙ ap (λ (b : List ℕ). take at buffer ++ b) (take-append-le n new (post_of at k buffer) l)
