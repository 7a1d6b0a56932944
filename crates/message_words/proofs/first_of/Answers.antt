-- It is the number that stands before the hyphen.
use Rattle.message_words.specs.Words.{before, first_of}
use Rattle.message_words.proofs.first_of.Goals as goal

pub returns : goal.returns
unfolding first_of before
returns c = rw c.part_before.ensures at c.number_of.ensures
