-- The word at the definition's place is compared.
use Rattle.paper.specs.Listing.{text}
use Rattle.desk_answers.specs.Answers.{replaces}
use Rattle.desk_answers.proofs.words.replaces.Goals as goal

pub returns : goal.returns
unfolding replaces text
returns c = rw (c.word.ensures, c.replace_place-k.ensures.0) at c.same.ensures
