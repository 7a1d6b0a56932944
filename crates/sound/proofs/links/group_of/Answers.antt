-- A series is in the group of its sender's slot, a right in one above all slots, and a sender in group 0.
use Rattle.laws.specs.Kit.{refl, sym, ap, ◌∙◌}
use Rattle.std.specs.Prelude.{◌+◌, ◌%◌}
use Rattle.sound.specs.Links.{group}
use Rattle.sound.proofs.links.group_of.Goals as goal

pub returns-then-is_series : goal.returns-then-is_series
unfolding group
returns-then-is_series c = rw (sym c.is_series.ensures ∙ c.if-is_series.true) c.senders_slot.ensures

pub returns-then-is_right : goal.returns-then-is_right
unfolding group
returns-then-is_right c =
    rw (sym c.is_series.ensures ∙ c.if-is_series.false, sym c.is_right.ensures ∙ c.if-is_right.true) (ap (λ k. 1001 + k % 23) c.wide_tag.ensures)

pub returns : goal.returns
unfolding group
returns c = rw (sym c.is_series.ensures ∙ c.if-is_series.false, sym c.is_right.ensures ∙ c.if-is_right.false) refl
