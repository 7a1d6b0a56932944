-- The answer, what is wrong with a code, the reply, then the newline.
use Rattle.paper.specs.Listing.{text}
use Rattle.desk_lines.specs.Lines.{verdict_line}
use Rattle.desk_text.specs.Put.Laws.{then}
use Rattle.desk_lines.proofs.verdict_line.Goals as goal

pub returns : goal.returns
unfolding verdict_line text
returns c = then (then (then c.put_answer-a.ensures c.put_verdict_fault-b.ensures) (rw (← c.reply.ensures) c.put_reply-c.ensures)) c.put_end.ensures
