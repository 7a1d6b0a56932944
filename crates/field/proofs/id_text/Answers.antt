-- An id's text is what stands before its first zero byte.
use Rattle.paper.specs.Ids.{id_text}
use Rattle.field.proofs.id_text.Goals as goal

pub returns : goal.returns
unfolding id_text
returns c = c.part_before.ensures
