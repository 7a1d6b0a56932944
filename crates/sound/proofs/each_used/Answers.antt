-- The two stages are the definition's clauses, the counts put last.
use Rattle.laws.specs.Kit.{◌and◌}
use Rattle.sound.proofs.Laws.Used.{each_used_lem}
use Rattle.sound.proofs.Laws.Groups.{fields_grouped}
use Rattle.laws.specs.Kit.{◌∙◌}
use Rattle.laws.specs.Kit.{sym}
use Rattle.sound.proofs.each_used.Goals as goal

pub returns-else-all_fields : goal.returns-else-all_fields
unfolding ◌and◌
returns-else-all_fields c = rw (each_used_lem, (sym c.all_fields.ensures ∙ c.if-all_fields.false)) c.if-all_fields.false

pub linked_sound-requires : goal.linked_sound-requires
linked_sound-requires c =
    let p = c.requires in
    (p.1, fields_grouped _ _ _ p.1 (sym c.all_fields.ensures ∙ c.if-all_fields.true))

pub returns-then-all_fields : goal.returns-then-all_fields
unfolding ◌and◌
returns-then-all_fields c =
    rw (each_used_lem, (sym c.all_fields.ensures ∙ c.if-all_fields.true)) c.linked_sound.ensures
