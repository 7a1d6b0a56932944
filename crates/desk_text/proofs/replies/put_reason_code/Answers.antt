-- Nothing, or the word and then the code.
use Rattle.laws.specs.Kit.{is_equal, is_other}
use Rattle.paper.specs.Listing.{text}
use Rattle.desk_text.specs.Replies.{reason_text}
use Rattle.desk_text.specs.Put.Laws.{then}
use Rattle.desk_text.proofs.replies.put_reason_code.Goals as goal

pub returns-then-reply-eq1 : goal.returns-then-reply-eq1
unfolding reason_text
returns-then-reply-eq1 c = rw (is_equal _ _ c.if-reply-eq1.true) c.put.ensures

pub returns : goal.returns
unfolding reason_text text
returns c = rw (is_other _ _ c.if-reply-eq1.false) (then c.put-behind.ensures c.put_code.ensures)
