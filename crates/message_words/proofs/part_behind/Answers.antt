-- The part from an offset to the end is what is left there.
use Rattle.laws.specs.Slices.{rest_slice}
use Rattle.message_words.proofs.part_behind.Goals as goal

pub returns : goal.returns
returns c = rw rest_slice c.start_behind-n.ensures.0
