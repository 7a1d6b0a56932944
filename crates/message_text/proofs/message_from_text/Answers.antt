-- It is the text form with its own first block and its own room.
use Rattle.laws.specs.Kit.{sym, replicate}
use Rattle.message_text.specs.MessageText.{message_text}
use Rattle.message_text.proofs.Laws.Lines.{zeros_length, zeros_again, copied_of}
use Rattle.message_text.proofs.message_from_text.Goals as goal

pub slice_bounds-blocks_from_text-end : goal.slice_bounds-blocks_from_text-end
slice_bounds-blocks_from_text-end c = sym (zeros_length 102912)

pub blocks_from_text-requires : goal.blocks_from_text-requires
blocks_from_text-requires c = zeros_again 102912

pub shape_of-buffer : goal.shape_of-buffer
shape_of-buffer c = c.blocks_from_text.auto.buffer

pub returns : goal.returns
unfolding message_text
returns c =
    let a = c.args in
    copied_of 102912 1 0 a.text.now a.buffer.now (replicate 102912 0) (zeros_length 102912) c.blocks_from_text.ensures
