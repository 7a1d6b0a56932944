-- The four pieces stand one behind the other.
use Rattle.desk_text.specs.Put.Laws.{then}
use Rattle.stream.specs.Line.{answer_line}
use Rattle.stream.proofs.line.put_answer.Goals as goal

pub returns : goal.returns
unfolding answer_line
returns c =
    then (then (then c.put-at.ensures c.put_numbers-at.ensures) c.put_bytes-at.ensures) c.put.ensures
