-- The bytes in the code are the rows of the definition.
use Rattle.paper.specs.Listing.{text}
use Rattle.desk_text.specs.Words.{lines, states, state_meaning}
use Rattle.desk_text.specs.Put.Laws.{called}
use Rattle.desk_text.proofs.words.put_state_meaning.Goals as goal

pub returns : goal.returns
unfolding state_meaning states lines text
returns c = called _ c.line_numbered.ensures c.put.ensures
