-- `sinkshow::take_frame` meets its contract. Assumes nothing.
use mathlib.Core.Path.{refl}
use Prim.Native.Nat.{◌+◌}
use native.Mathlib.Omega.{arith}
use Rattle.sinkshow.proofs.Taken.{not_refused, shown}
use Rattle.sinkshow.proofs.Laws.{numbers_within}
use Rattle.sinkshow.proofs.take_frame.Goals as goal

pub returns-in_default : goal.returns-in_default
returns-in_default c =
    let start = c in
    let g = start.args in
    let t = c.take_frame-result in
    let promise = rw c.new_settings-settings.ensures at t.ensures in
    absurd (not_refused g.run g.frame.now _ (omega arith) refl t.result _ _ promise _ c.in_default.is)

pub put_standing-requires : goal.put_standing-requires
put_standing-requires c =
    let g = c.args in
    let t = c.take_frame-result in
    let p = c.put_numbers-at.ensures in
    omega (arith, p.next, p.kept, numbers_within (g.run.frames + 1) t.result.handed)

pub returns : goal.returns
returns c =
    let start = c in
    let g = start.args in
    let t = c.take_frame-result in
    let promise = rw c.new_settings-settings.ensures at t.ensures in
    let done = c.in-Ok.is in
    let numbers = c.put_numbers-at.ensures in
    let standing = c.put_standing.ensures in
    shown g.run g.frame.now _ (omega arith) refl t.result _ _ promise _ done _ _ _ _ _ numbers standing
