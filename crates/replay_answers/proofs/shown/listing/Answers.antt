-- The buffer has room for every listing: what is shown of it is the whole text.
use Rattle.listing_text.specs.Bound.{listing_most}
use Rattle.replay_answers.specs.Answers.{listing_line}
use Rattle.replay_answers.specs.Answers.Laws.{text_read_back}
use Rattle.replay_answers.proofs.shown.listing.Goals as goal

pub returns : goal.returns
unfolding listing_line
returns c =
    let l = c.listing-n.ensures in
    rw (c.part_of.ensures, l.0, l.1, text_read_back _ _ (listing_most _)) at c.answer_with.ensures
