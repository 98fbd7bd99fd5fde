-- The starred cases, by computing the definitions. Assumes nothing.
use mathlib.Core.Path.{refl}
use Rattle.math.specs.Bits.{bits}
use Rattle.gmp_crc8.specs.Division.{reduce, divide}
use Rattle.gmp_crc8.specs.Check.{remainder, passes}
use Rattle.gmp_crc8.specs.Checked.{checked_word}
use Rattle.gmp_settings.specs.Settings.{outside}
use Rattle.gmp_standing.specs.Known.{in_window}
use Rattle.gmp_control.specs.Word.{equal_indicators}
use Rattle.gmp_control.specs.Pattern.{table_of}
use Rattle.gmp_control.specs.Announce.{announced}
use Rattle.gmp_control.specs.Follow.{usable, tracked, candidate, paired, reached, found_by}
use Rattle.gmp_keeper.specs.Keeper.{keeper_refusal, keeper_call}
use Rattle.gmp_keeper.specs.Sum.{counts_from}
use Rattle.gmp_source.specs.Source.{control_bytes}
use Rattle.gmp_sink.specs.Sink.{standing_after, state_after}
use Rattle.claim_worked.specs.Starred.{AllHold, starred, reads, carrying}

pub starred_hold : AllHold starred
unfolding control_bytes announced table_of remainder divide reduce bits passes checked_word reads carrying standing_after state_after found_by reached in_window usable tracked candidate paired equal_indicators outside counts_from keeper_call keeper_refusal
starred_hold = (refl, (refl, (refl, (refl, (refl, (refl, (refl, (refl, (refl, (refl, (refl, (refl, (refl, (refl, (refl, tt)))))))))))))))
