-- What is behind the newline in the rest of the text is found as many bytes further on in the text.
use Rattle.message_words.specs.Words.Laws.{further_on}
use Rattle.message_words.proofs.next_line.Goals as goal

pub returns : goal.returns
returns c = further_on c.args.text.now c.args.at _ c.requires c.start_behind.ensures
