-- The tag is that of the bytes that the definition chooses.
use Rattle.laws.specs.Kit.{sym, ap, ◌∙◌}
use Rattle.index.specs.Tags.{tag_of, pair_tag_of}
use Rattle.sound.specs.Links.{key_tag}
use Rattle.sound.proofs.links.key_tag.Goals as goal

pub returns-then-is_sender : goal.returns-then-is_sender
unfolding key_tag
returns-then-is_sender c = rw (sym c.is_sender.ensures ∙ c.if-is_sender.true) (c.tag_of.ensures ∙ ap tag_of c.sender.ensures)

pub returns-then-is_trade : goal.returns-then-is_trade
unfolding key_tag
returns-then-is_trade c =
    rw (sym c.is_sender.ensures ∙ c.if-is_sender.false, sym c.is_trade.ensures ∙ c.if-is_trade.true) (c.pair_tag_of.ensures ∙ ap pair_tag_of c.pair.ensures)

pub returns : goal.returns
unfolding key_tag
returns c =
    rw (sym c.is_sender.ensures ∙ c.if-is_sender.false, sym c.is_trade.ensures ∙ c.if-is_trade.false) c.wide_tag.ensures
