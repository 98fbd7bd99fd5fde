-- What a load comes to: the paper's source over its rate keeper, at OPU0's size. Assumes nothing.
use Rattle.std.specs.Prelude.{◌≡◌, false, List, ℕ, ◌+◌, ◌/◌, ◌%◌}
use Rattle.refusals.specs.Table.{Answer, accepted, refused, answer_by}
use Rattle.gmp_refusal.specs.Refusal.{refusal_number}
use Rattle.gmp_settings.specs.Settings.{opu0, outside}
use Rattle.gmp_keeper.specs.Keeper.{keeper_refusal, first_remainder}
use Rattle.gmp_source.specs.Source.{start_state, next_state, written}
use Rattle.program_map.specs.declared.Rate.{Rate}
use Rattle.program_map.specs.declared.Mapper.{Mapper}
use Rattle.std.specs.Prelude.{Result, Ok, Err}
use Rattle.gmp_refusal.specs.declared.Refusal.{Refusal}

-- the count that the keeper gives from the remainder r, and the remainder that it keeps
abbrev pub count_from : Rate → ℕ → ℕ
count_from a r = (r + a.p) / a.q

abbrev pub kept_from : Rate → ℕ → ℕ
kept_from a r = (r + a.p) % a.q

-- why the keeper refuses, or 0
abbrev pub refusal_from : Rate → ℕ → ℕ
refusal_from a r = keeper_refusal opu0 a.p a.q r

-- a new mapper: the source's first count is the keeper's, the payload type is 7
abbrev pub new_mapper : Rate → Mapper
new_mapper a =
    record {
      source = start_state (count_from a (first_remainder a.q)) 7;
      remainder = kept_from a (first_remainder a.q);
    }

-- a new mapper, or the number by which the keeper refuses
unfoldable pub start_answer : Rate → Answer Mapper
start_answer a = answer_by (refusal_from a (first_remainder a.q)) (new_mapper a)

-- the paper's number and value for each case
abbrev pub start_meaning : Result Mapper Refusal → Answer Mapper
start_meaning (Ok m) = accepted m
start_meaning (Err r) = refused (refusal_number r)

-- A mapper that goes on: the keeper accepts, and the source's count is in the window.
pub record Ready (a : Rate) (m : Mapper) : Type 0 where
  pub keeper : refusal_from a m.remainder ≡ 0
  pub count : outside opu0 m.source.count ≡ false

-- the mapper after a frame
abbrev pub mapped : Rate → Mapper → Mapper
mapped a m = record { source = next_state m.source (count_from a m.remainder); remainder = kept_from a m.remainder }

-- A load mapped: the mapper after it, which goes on, and every byte of the frame, which announces
-- the keeper's next count.
pub record Maps (a : Rate) (m : Mapper) (load : List ℕ) (r : Mapper) (frame : List ℕ) : Type 0 where
  pub mapper : r ≡ mapped a m
  pub ready : Ready a r
  pub frame_bytes : frame ≡ written opu0 m.source (count_from a m.remainder) load
