-- `program_decimal::parse` meets its contract. At each turn the number read so far, with the rest
-- of the text behind it, is what the text spells. Assumes nothing.
use mathlib.Core.Path.{◌≡◌}
use Prim.Native.Nat.{◌<◌}
use lib.ListN.{drop}
use Rattle.program_decimal.specs.Number.{number_from, number_of}
use Rattle.program_decimal.proofs.parse.Given as goal

abbrev pub invariant-loop-digit : goal.invariant-loop-digit
invariant-loop-digit l = (l.n < 4294967296) × (number_of l.text ≡ number_from l.n (drop l.digit-index l.text))
