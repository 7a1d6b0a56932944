-- The answer told is the mark's number and the accepted block.
use Rattle.desk_answers.proofs.questions.block_told.Goals as goal

pub returns : goal.returns
returns c = rw (c.mark-number.ensures, c.accepted_block.ensures, c.word-sender.ensures, c.id_field-id.ensures, c.word.ensures) at c.block_line.ensures
