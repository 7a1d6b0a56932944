-- Where what stands before the hyphen is all, there is no hyphen.
use Rattle.laws.specs.Kit.{sym, is_equal, is_other}
use Rattle.message_words.specs.Words.{before, last_of}
use Rattle.message_words.proofs.last_of.Goals as goal

pub returns-then-length_before-w : goal.returns-then-length_before-w
unfolding last_of before
returns-then-length_before-w c = rw (sym c.length_before.ensures.0, is_equal _ _ c.if-length_before-w.true) c.first_of.ensures

pub returns : goal.returns
unfolding last_of before
returns c = rw (sym c.length_before.ensures.0, is_other _ _ c.if-length_before-w.false) (cc)
