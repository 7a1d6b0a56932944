-- The code asks the definition's questions.
use Rattle.laws.specs.Kit.{refl, ◌and◌, neg, is, less, upto}
use Rattle.message_text.proofs.fill.positions_fine.Goals as goal

pub returns : goal.returns
unfolding ◌and◌ neg is less upto
returns c = refl
