-- The two bytes of a number are those of its remainder by 65,536.
use Rattle.layout.specs.Written.{with_series_count}
use Rattle.layout.proofs.Laws.{little_2}
use Rattle.message_text.proofs.count_series.Goals as goal

pub returns : goal.returns
unfolding with_series_count
returns c = cc (little_2 c.args.series)
