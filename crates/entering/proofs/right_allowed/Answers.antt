-- A block of another length is none; of one block the rest is asked.
use Rattle.laws.specs.Kit.{◌and◌, is_equal, is_other}
use Rattle.paper.specs.Rights.{right_allowed}
use Rattle.entering.proofs.right_allowed.Goals as goal

pub returns-then-block-ne512 : goal.returns-then-block-ne512
unfolding right_allowed ◌and◌
returns-then-block-ne512 c = rw (is_other _ 512 c.if-block-ne512.true)

pub returns : goal.returns
unfolding right_allowed ◌and◌
returns c =
    rw (is_equal _ 512 c.if-block-ne512.false, c.check_right.ensures, c.is_right.ensures, c.right_sound.ensures)
