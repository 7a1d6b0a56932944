-- Behind k pieces the next one is piece k.
use Rattle.laws.specs.Kit.{ap, ◌∙◌}
use Rattle.desk_text.specs.Words.{first_piece, piece_numbered}
use Rattle.desk_text.proofs.words.piece_numbered.Goals as goal

pub returns : goal.returns
unfolding piece_numbered first_piece
returns c = c.part_before.ensures ∙ ap (first_piece _) c.past_pieces.ensures
