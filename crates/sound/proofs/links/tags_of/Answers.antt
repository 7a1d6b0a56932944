-- The blocks up to i have their tags.
use Rattle.laws.specs.Kit.{arith, refl, ◌∙◌, length-set}
use Rattle.sound.proofs.Laws.Tags.{tagged_none, tagged_more, tagged_all}
use Rattle.sound.proofs.links.tags_of.Goals as goal

pub loop-i-init : goal.loop-i-init
loop-i-init c = (tagged_none _ _, refl)

pub loop-i-preserved : goal.loop-i-preserved
loop-i-preserved c =
    let i = c.loop-i.invariant in
    (tagged_more _ _ _ _ (omega (arith, i.1, c.requires, c.loop-i-test.true)) c.block_at.ensures c.of.ensures i.0, length-set _ _ _ ∙ i.1)

pub returns : goal.returns
returns c = tagged_all _ _ _ _ c.loop-i.auto.i-end c.loop-i-test.false c.loop-i.invariant.0
