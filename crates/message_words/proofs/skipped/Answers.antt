-- The code asks the definition's two questions.
use Rattle.laws.specs.Kit.{◌or◌, is}
use Rattle.message_words.specs.Words.{skipped}
use Rattle.message_words.proofs.skipped.Goals as goal

pub returns : goal.returns
unfolding skipped ◌or◌ is
returns c = cc
