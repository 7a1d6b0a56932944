-- The code asks for the two other kinds first; each case is one of the definition.
use Rattle.laws.specs.Kit.{is, is_equal, is_other}
use Rattle.paper.specs.Listing.{text}
use Rattle.desk_text.specs.Replies.{reply_text}
use Rattle.desk_text.specs.Put.Laws.{then}
use Rattle.desk_text.proofs.replies.put_reply.Goals as goal

pub returns-then-reply-eq1 : goal.returns-then-reply-eq1
unfolding reply_text text is
returns-then-reply-eq1 c = let k = c.if-reply-eq1.true in rw k c.put.ensures

pub returns-then-reply-ne0 : goal.returns-then-reply-ne0
unfolding reply_text text
returns-then-reply-ne0 c = rw (is_other _ _ c.if-reply-ne0.true, is_other _ _ c.if-reply-eq1.false) c.put-then-reply-ne0.ensures

pub returns : goal.returns
unfolding reply_text text
returns c = rw (is_equal _ _ c.if-reply-ne0.false) (then (then c.put-a.ensures c.put_code-b.ensures) c.put_reason_code.ensures)
