-- It is what stands behind the first space.
use Rattle.message_words.specs.Words.{value}
use Rattle.message_words.proofs.value.Goals as goal

pub returns : goal.returns
unfolding value
returns c = c.part_behind.ensures
