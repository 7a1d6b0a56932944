-- The block shown is the series of that number.
use Rattle.replay_answers.specs.Answers.{shown_block, reader_line}
use Rattle.replay_answers.proofs.shown.reader.Goals as goal

pub returns : goal.returns
unfolding reader_line shown_block
returns c =
    rw (c.series_numbered-series.ensures, c.number_2.ensures, c.rest_from.ensures) at c.answer_with.ensures
