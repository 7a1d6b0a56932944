-- The list of the program goes through the words of the definition in its order.
use Rattle.std.proofs.Common.{rules}
use Rattle.std.proofs.lemmas.Iterator.{YieldsList-from_slice}
use Rattle.std.proofs.lemmas.Iterator.Consumers.{YieldsList-from_copied, YieldsList-at}
use Rattle.std.proofs.lemmas.Iterator.Search.{find_from_yields_List}
use Rattle.laws.specs.Lists.{same}
use Rattle.desk_text.specs.Commands.{word_of}
use Rattle.desk_text.proofs.Laws.{command_found}
use Rattle.desk_text.proofs.commands.Command.named.Goals as goal

pub returns : goal.returns
returns c =
    command_found c.args.word.now c.find.result
    (find_from_yields_List (λ d. same (word_of d) c.args.word.now) _ _ c.find.result c.find.ensures.ran
    (YieldsList-from_copied (YieldsList-at c.copied.ensures.source (YieldsList-from_slice _ c.iter.ensures.rest))) (λ x b q k. search rules))
