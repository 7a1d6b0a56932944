-- The number at an offset is the number at the start of what stands from there on; past the end it is 0.
use Rattle.laws.specs.Kit.{sym, ◌∙◌}
use Rattle.laws.specs.Slices.{number_past, number_slice}
use Rattle.block.proofs.numbers.number_2.Goals as goal

pub returns-then-s-at : goal.returns-then-s-at
returns-then-s-at c = let a = c.args in sym (number_past 2 a.at a.s.now c.if-s-at.true)

pub returns : goal.returns
returns c = let a = c.args in c.first_2.ensures ∙ number_slice 2 a.at a.s.now
