-- `gmp_frame_write::fill` meets its contract. Assumes nothing.
use Rattle.gmp_frame_write.proofs.Writing.{frame_written_lem}
use Rattle.gmp_frame_write.proofs.fill.Goals as goal

pub returns : goal.returns
returns c =
    let g = c.args in
    frame_written_lem g.k g.client.now g.control g.psi g.buffer.now c.write_row.new.buffer c.write_row-2.new.buffer c.write_row-3.new.buffer c.write_row-4.new.buffer
    c.requires.0 c.write_row.ensures c.write_row-2.ensures c.write_row-3.ensures c.write_row-4.ensures
