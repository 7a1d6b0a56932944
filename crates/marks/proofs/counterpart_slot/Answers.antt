-- An external schedule is paired by nothing; a trade's counterpart is sought in the bucket of its pair.
use Rattle.laws.specs.Kit.{sym, ap, ◌∙◌}
use Rattle.std.proofs.Common.{rules}
use Rattle.paper.specs.Marks.{counterpart_slot}
use Rattle.index.specs.Linked.{bucket}
use Rattle.marks.proofs.Laws.{no_counterpart, counterpart_linked}
use Rattle.marks.proofs.counterpart_slot.Goals as goal

pub returns-then-not-is_trade : goal.returns-then-not-is_trade
returns-then-not-is_trade c = sym (no_counterpart _ _ (sym c.is_trade.ensures ∙ c.if-not-is_trade.true))

pub returns : goal.returns
unfolding counterpart_slot
returns c =
    c.find.ensures.0 _ _ _ c.requires (λ y t. rw (c.bucket.ensures.0 ∙ ap bucket c.pair.ensures) (counterpart_linked _ _ y t)) (λ j b h k. rw (← c.senders_slot-slot.ensures) (search rules))
