-- The clauses are taken in the definition's order, each part as the definition cuts it.
use Rattle.laws.specs.Kit.{◌and◌}
use Rattle.facts.specs.Sound.{day_n}
use Rattle.sound.proofs.Laws.Book.{filled_split, slots_few}
use Rattle.laws.specs.Kit.{◌∙◌}
use Rattle.laws.specs.Kit.{sym}
use Rattle.sound.proofs.filled_sound.Goals as goal

pub returns-then-not-checks_right : goal.returns-then-not-checks_right
unfolding ◌and◌
returns-then-not-checks_right c = rw (filled_split, (sym c.checks_right.ensures ∙ c.if-not-checks_right.true))

pub returns-then-not-day_sound : goal.returns-then-not-day_sound
unfolding ◌and◌
returns-then-not-day_sound c =
    rw (filled_split, (sym c.checks_right.ensures ∙ c.if-not-checks_right.false), rw c.part_of-d.ensures at (sym c.day_sound.ensures ∙ c.if-not-day_sound.true))

pub each_used-requires : goal.each_used-requires
each_used-requires c =
    (day_n _ (sym c.day_sound.ensures ∙ c.if-not-day_sound.false), slots_few c.args.filled.now c.requires.1)

pub returns : goal.returns
unfolding ◌and◌
returns c =
    rw (filled_split, (sym c.checks_right.ensures ∙ c.if-not-checks_right.false), ← c.part_of-d.ensures, (sym c.day_sound.ensures ∙ c.if-not-day_sound.false)) c.each_used.ensures
