-- What the functions of this crate promise, in the words of gmp_sink's definitions. The promise of
-- the sink's call does not rest on believing it. Assumes nothing.
use Rattle.std.specs.Prelude.{◌≡◌, Bool}
use Rattle.gmp_crc8.specs.declared.WordBytes.{WordBytes}
use Rattle.gmp_settings.specs.declared.Settings.{Settings}
use Rattle.gmp_standing.specs.Standing.{standing_meaning}
use Rattle.gmp_control.specs.Word.{word_by}
use Rattle.gmp_control.specs.Follow.{Follows}
use Rattle.gmp_frame.specs.declared.Control.{Control}
use Rattle.gmp_sink.specs.declared.SinkState.{SinkState}
use Rattle.gmp_sink.specs.declared.ControlRead.{ControlRead}
use Rattle.gmp_sink.specs.Sink.{standing_after, state_after, mended_in}

-- what the control bytes lead to
pub record ReadsControl (s : Settings) (z : SinkState) (c : Control) (r : ControlRead) : Type 0 where
  pub standing : standing_meaning r.followed.standing ≡ standing_after s z c
  pub count : r.followed.count ≡ (state_after s z c).count
  pub word : r.followed.word ≡ (state_after s z c).word
  pub mended : r.mended ≡ mended_in s c

-- of the private function `hear_word`: what a word that was read leads to
pub record FollowsWord (s : Settings) (z : SinkState) (w : WordBytes) (mended : Bool) (r : ControlRead) : Type 0 where
  pub follows : Follows s z.count z.word (word_by w.jc1 w.jc2) r.followed
  pub told : r.mended ≡ mended
