-- Each word is the definition's, and at most sixteen bytes long.
use Rattle.laws.specs.Kit.{arith, ap, ◌∙◌}
use Rattle.paper.specs.Layout.{sender}
use Rattle.paper.specs.Ids.{id_text}
use Rattle.paper.specs.Book.{numbered}
use Rattle.listing_text.specs.Text.{names}
use Rattle.listing_text.specs.Bound.{sender_most, id_most}
use Rattle.listing_text.proofs.Laws.{then}
use Rattle.listing_text.proofs.Laws.Line.{word_as}
use Rattle.std.proofs.Common.{rules}
use Rattle.listing_text.proofs.put_names.Goals as goal

pub put_word-at-requires : goal.put_word-at-requires
put_word-at-requires c = (omega arith, rw c.sender.ensures (sender_most _))

pub put_word-requires : goal.put_word-requires
put_word-requires c = (omega arith, rw (c.id_text.ensures, c.id_of.ensures) (id_most _))

pub returns : goal.returns
unfolding names
returns c =
    let from = c.sender.ensures ∙ ap sender (c.numbered.ensures ∙ ap (numbered _) c.senders_slot.ensures) in
    let id = c.id_text.ensures ∙ ap id_text c.id_of.ensures in
    (then (then c.put_number-at.ensures.0 (word_as 32 from c.put_word-at.ensures.0)) (word_as 32 id c.put_word.ensures.0), search rules)
