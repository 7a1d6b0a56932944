-- The test is the definition's, and so are the two answers.
use Rattle.laws.specs.Kit.{sym, ◌and◌, is}
use Rattle.message_words.specs.Words.{before, number_of}
use Rattle.message_words.proofs.number_of.Goals as goal

pub returns-then-read-length_before : goal.returns-then-read-length_before
unfolding number_of before ◌and◌ is
returns-then-read-length_before c = rw (sym c.quantity_read-read.ensures, sym c.length_before.ensures.0, c.if-read-length_before.true)

pub returns : goal.returns
unfolding number_of before ◌and◌ is
returns c = rw (sym c.quantity_read-read.ensures, sym c.length_before.ensures.0, c.if-read-length_before.false)
