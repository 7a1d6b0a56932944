-- The code goes by the definition's cases, as the byte's tag tells; a call that shows bytes leaves the book as it was, and so does a byte that is no tag.
use Rattle.laws.specs.Kit.{refl, sym, ◌and◌, ◌or◌, is, less}
use Rattle.replay_answers.specs.Answers.{line_of, may_change, book_after}
use Rattle.replay_answers.specs.Answers.Laws.{plain_line, none_line, none_book}
use Rattle.replay_answers.proofs.answer.Goals as goal

pub returns-in_default : goal.returns-in_default
returns-in_default c =
    let none = c.in_default.ensures in
    let book = c.args.book.now in
    let body = c.args.body.now in
    (rw (none_line c.args.tag book body none) (rw (c.told_of_none.ensures body) at c.answer.ensures), sym (none_book c.args.tag book body none))

pub returns-in-Block : goal.returns-in-Block
unfolding line_of book_after may_change ◌and◌ ◌or◌ is less
returns-in-Block c = rw (← c.in-Ok.ensures, c.in-Block.is) (c.accepted_block.ensures, refl)

pub returns-in-Reader : goal.returns-in-Reader
unfolding line_of book_after may_change ◌and◌ ◌or◌ is less
returns-in-Reader c = rw (← c.in-Ok.ensures, c.in-Reader.is) (c.reader.ensures, refl)

pub returns-in-Listing : goal.returns-in-Listing
unfolding line_of book_after may_change ◌and◌ ◌or◌ is less
returns-in-Listing c = rw (← c.in-Ok.ensures, c.in-Listing.is) (c.listing.ensures, refl)

pub returns-in-Print : goal.returns-in-Print
unfolding line_of book_after may_change ◌and◌ ◌or◌ is less
returns-in-Print c = rw (← c.in-Ok.ensures, c.in-Print.is) (c.print.ensures, refl)

pub returns-in-Seal : goal.returns-in-Seal
unfolding line_of book_after may_change ◌and◌ ◌or◌ is less
returns-in-Seal c = rw (← c.in-Ok.ensures, c.in-Seal.is) (c.seal.ensures, refl)

pub returns-in_default-call : goal.returns-in_default-call
returns-in_default-call c =
    let d = c.in_default-call in
    let plain = rw c.in-Ok.ensures at (plain_line c.in-Ok.call c.args.book.now c.args.body.now d.not-Block d.not-Reader d.not-Listing d.not-Print d.not-Seal) in
    let told = rw c.in-Ok.ensures at c.numbers.ensures in
    (rw plain (rw told.0 at c.answer-in_default-call.ensures), told.1)
