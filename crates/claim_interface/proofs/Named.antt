-- What a frame leads to is one of the six standings. Assumes nothing.
use mathlib.Core.Path.{◌≡◌, refl, ◌∙◌}
use mathlib.Core.Bool.{Bool, true, false, cond}
use Prim.Native.Nat.{ℕ}
use Rattle.gmp_crc8.specs.declared.CheckedWord.{CheckedWord}
use Rattle.gmp_crc8.specs.declared.CheckedWord.TheVariants.{Whole, Mended, Bad}
use Rattle.gmp_settings.specs.declared.Settings.{Settings}
use Rattle.gmp_settings.specs.Settings.{outside}
use Rattle.gmp_standing.specs.declared.Count.{Count}
use Rattle.gmp_standing.specs.declared.Count.TheVariants.{Known, Unknown}
use Rattle.gmp_standing.specs.declared.Standing.{Standing}
use Rattle.gmp_standing.specs.declared.Standing.TheVariants.{Read, Tracked, Paired, BadCheck, Waiting, Outside}
use Rattle.gmp_standing.specs.Standing.{Finding, finding, READ, OUTSIDE, standing_meaning}
use Rattle.gmp_standing.specs.Known.{in_window}
use Rattle.std.specs.Prelude.{Option}
use Rattle.gmp_control.specs.Word.{count_bits, equal_indicators, word_by}
use Rattle.gmp_control.specs.Pattern.{Table, table_of}
use Rattle.gmp_control.specs.Follow.{usable, from_count, from_word, tracked_else_paired, reached, windowed_by, found_by}
use Rattle.gmp_frame.specs.declared.Control.{Control}
use Rattle.gmp_sink.specs.declared.SinkState.{SinkState}
use Rattle.gmp_sink.specs.Sink.{checked_in, standing_by, standing_after}
use Rattle.gmp_sink.proofs.Laws.{standing_read}

abbrev pub Named : Finding → Type 0
Named f = (x : Standing) × (f ≡ standing_meaning x)

by_rule_3 : (a b : Count) → Named (tracked_else_paired a b)
by_rule_3 (Known n) b = (Tracked n, refl)
by_rule_3 Unknown (Known m) = (Paired m, refl)
by_rule_3 Unknown Unknown = (Waiting, refl)

choice : (b : Bool) (f g : Finding) → Named f → Named g → Named (cond b f g)
choice true f g p q = p
choice false f g p q = q

in_window_lem : (s : Settings) (f : Finding) (c : Count) → Named f → Named (windowed_by s f c)
in_window_lem s f (Known n) p = choice (outside s n) (finding OUTSIDE Unknown) f (Outside, refl) p
in_window_lem s f Unknown p = p

found_named : (t : Table) (s : Settings) (count : Count) (before : Option ℕ) (w : ℕ) → Named (found_by t s count before w)
unfolding found_by reached
found_named t s count before w =
    let rule-3 : Finding = tracked_else_paired (from_count t (in_window s count) w) (from_word t (usable before) w) in
    let f : Finding = cond (equal_indicators w) (finding READ (Known (count_bits w))) rule-3 in
    in_window_lem s f f.count
    (choice (equal_indicators w) (finding READ (Known (count_bits w))) rule-3 (Read (count_bits w), refl) (by_rule_3 (from_count t (in_window s count) w) (from_word t (usable before) w)))

read_named : (s : Settings) (z : SinkState) (r : CheckedWord) → Named (standing_by s z r)
read_named s z (Whole w) = found_named (table_of s) s z.count z.word (word_by w.jc1 w.jc2)
read_named s z (Mended w) = found_named (table_of s) s z.count z.word (word_by w.jc1 w.jc2)
read_named s z Bad = (BadCheck, refl)

pub named : (s : Settings) (z : SinkState) (c : Control) → Named (standing_after s z c)
named s z c =
    let n = read_named s z (checked_in s c) in
    (n.0, standing_read s z c (checked_in s c) refl ∙ n.1)
