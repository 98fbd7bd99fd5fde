-- `gmp_frame_write::write_row` meets its contract. Assumes nothing.
use mathlib.Core.Path.{◌≡◌, ◌∙◌}
use Prim.Native.Nat.{◌+◌, ◌-◌, ◌*◌}
use native.Mathlib.Omega.{arith}
use lib.ListN.{length, take, drop, set, length-set, length-take, length-drop}
use Rattle.gmp_stuffing.proofs.Laws.{fits_where, placed_fits}
use Rattle.gmp_frame.specs.Frame.{row}
use Rattle.gmp_frame.proofs.Rows.{row_within}
use Rattle.gmp_frame_write.proofs.Writing.{row_stored}
use Rattle.gmp_frame_write.proofs.write_row.Goals as goal

pub returns : goal.returns
unfolding row
returns c =
    let g = c.args in
    let i = g.r * (g.k + 2) in
    let d = set (set g.buffer.now i g.a) (i + 1) g.b in
    let h = row_within g.r g.k c.requires.1 in
    let part = take (i + 2 + g.k - (i + 2)) (drop (i + 2) d) in
    let l : length part ≡ g.k = simp (length-take, length-drop, length-set) (omega arith) in
    let fits = fits_where g.k g.r (length g.client.now) c.requires.0.2 c.requires.1 c.requires.0.1 in
    row_stored g.buffer.now c.place_row.new.part i g.k g.a g.b (omega arith)
    ∙ rw (c.place_row.ensures, placed_fits g.k g.r g.client.now part l fits)
