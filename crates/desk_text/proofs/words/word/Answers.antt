-- The pieces that a zero byte ends are the words.
use Rattle.desk_text.specs.Words.{word_numbered}
use Rattle.desk_text.proofs.words.word.Goals as goal

pub returns : goal.returns
unfolding word_numbered
returns c = c.piece_numbered.ensures
