-- The tests are the definition's, in its order; past them the book is written anew.
use Rattle.opening.proofs.Laws.Judged.{sized_allowed}
use Rattle.opening.proofs.Laws.Opened.{book_long, refused_20, refused_21, opened_0}
use Rattle.std.proofs.Common.{◌∙◌}
use Rattle.std.proofs.Common.{sym}
use Rattle.opening.proofs.open_by.Goals as goal

pub returns-then-not-whole_blocks : goal.returns-then-not-whole_blocks
returns-then-not-whole_blocks c = refused_20 _ _ (sym c.whole_blocks.ensures ∙ c.if-not-whole_blocks.true)

pub returns-then-not-opening_allowed : goal.returns-then-not-opening_allowed
returns-then-not-opening_allowed c =
    refused_21 _ _ (sym c.whole_blocks.ensures ∙ c.if-not-whole_blocks.false) (sym c.opening_allowed.ensures ∙ c.if-not-opening_allowed.true) c.number_of_two.ensures

pub write_opened-requires : goal.write_opened-requires
write_opened-requires c =
    (book_long _ (sym c.whole_blocks.ensures ∙ c.if-not-whole_blocks.false), sized_allowed _ (sym c.opening_allowed.ensures ∙ c.if-not-opening_allowed.false))

pub returns : goal.returns
returns c =
    opened_0 _ _ (sym c.whole_blocks.ensures ∙ c.if-not-whole_blocks.false) (sym c.opening_allowed.ensures ∙ c.if-not-opening_allowed.false) c.write_opened.ensures
