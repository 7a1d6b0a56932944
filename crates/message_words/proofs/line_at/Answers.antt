-- The line is what stands before the newline in the rest of the text.
use Rattle.laws.specs.Slices.{rest_slice}
use Rattle.message_words.specs.Words.{before}
use Rattle.message_words.proofs.line_at.Goals as goal

pub returns : goal.returns
unfolding before
returns c = rw rest_slice at c.part_before.ensures
