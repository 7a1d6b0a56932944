-- The word is the tag's.
use Rattle.stream.proofs.line.answer_with.Goals as goal

pub returns : goal.returns
returns c = rw c.word_of.ensures at c.put_answer.ensures
