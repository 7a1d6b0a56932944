-- A sender, a right and another block are judged as the definition has it.
use Rattle.laws.specs.Kit.{sym, ◌∙◌, ◌and◌}
use Rattle.sound.specs.Used.{used_fields}
use Rattle.sound.proofs.used_fields.Goals as goal

pub returns-then-is_sender : goal.returns-then-is_sender
unfolding used_fields ◌and◌
returns-then-is_sender c =
    rw (sym c.is_sender.ensures ∙ c.if-is_sender.true) (simp (c.sender_day.ensures, c.sender_fields.ensures))

pub returns-then-is_right : goal.returns-then-is_right
unfolding used_fields
returns-then-is_right c =
    rw (sym c.is_sender.ensures ∙ c.if-is_sender.false, sym c.is_right.ensures ∙ c.if-is_right.true) c.right_sound.ensures

pub returns : goal.returns
unfolding used_fields ◌and◌
returns c =
    rw (sym c.is_sender.ensures ∙ c.if-is_sender.false, sym c.is_right.ensures ∙ c.if-is_right.false)
    (simp (c.differing_allowed.ensures, c.differing.ensures, c.n_of.ensures, c.series_sound.ensures, c.is_series.ensures))
