-- As many zeros are lent as the buffer has bytes; what is laid there is copied.
use Rattle.message_text.proofs.Laws.Lines.{part_whole, copied_back, reads_told}
use Rattle.message_text.proofs.blocks_from_text.Goals as goal

pub slice_bounds-write_bytes-end-2 : goal.slice_bounds-write_bytes-end-2
slice_bounds-write_bytes-end-2 c =
    let g = reads_told _ _ _ _ c.lay_text.ensures c.from-read.ensures in
    part_whole _ c.lay_text.new.room _ g.1

pub returns : goal.returns
returns c =
    let a = c.args in
    let g = reads_told _ _ _ _ c.lay_text.ensures c.from-read.ensures in
    copied_back _ _ c.within-n.result a.text.now a.buffer.now c.lay_text.new.room a.room.now c.requires c.within-n.ensures.0 c.lay_text.auto.room g.1 g.0 c.write_bytes.ensures
