-- The code is that of the mark's state.
use Rattle.laws.specs.Kit.{ap, ◌∙◌}
use Rattle.paper.specs.Marks.{state_code, mark_code}
use Rattle.codes.proofs.mark_code.Goals as goal

pub returns : goal.returns
unfolding mark_code
returns c = c.state_code.ensures ∙ ap state_code c.state_of_mark.ensures
