-- It is what stands before the first space.
use Rattle.message_words.specs.Words.{before, word}
use Rattle.message_words.proofs.word.Goals as goal

pub returns : goal.returns
unfolding word before
returns c = c.part_before.ensures
