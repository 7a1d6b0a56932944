-- The four numbers are those of the definition.
use Rattle.laws.specs.Kit.{less_true, less_false}
use Rattle.index.specs.Tags.{tag_of}
use Rattle.index.proofs.tags.tag_of.Goals as goal

pub returns-then-s-lt16 : goal.returns-then-s-lt16
unfolding tag_of
returns-then-s-lt16 c = rw (less_true _ _ c.if-s-lt16.true)

pub returns : goal.returns
unfolding tag_of
returns c =
    simp (
      c.mixed-3.ensures,
      c.number_4-4.ensures,
      c.mixed-2.ensures,
      c.number_4-3.ensures,
      c.mixed.ensures,
      c.number_4-2.ensures,
      c.number_4.ensures,
      less_false _ _ c.if-s-lt16.false,
    )
