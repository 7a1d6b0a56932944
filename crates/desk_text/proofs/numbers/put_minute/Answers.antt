-- A minute less the day's start.
use Rattle.desk_text.specs.Numbers.{minute_text}
use Rattle.desk_text.proofs.numbers.put_minute.Goals as goal

pub returns : goal.returns
unfolding minute_text
returns c = c.put_difference.ensures
