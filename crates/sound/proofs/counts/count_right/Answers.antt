-- Where no two senders share an EIC, the sender's slot is where it stands, so its count is held to the series of that slot.
use Rattle.laws.specs.Kit.{sym, ◌and◌, is}
use Rattle.sound.specs.Links.{in_group}
use Rattle.sound.proofs.Laws.Used.{own_count, no_count}
use Rattle.laws.specs.Kit.{◌∙◌}
use Rattle.sound.proofs.counts.count_right.Goals as goal

pub returns-then-not-is_sender : goal.returns-then-not-is_sender
returns-then-not-is_sender c =
    sym (no_count _ _ (rw c.block_at-b.ensures at (sym c.is_sender.ensures ∙ c.if-not-is_sender.true)))

pub returns : goal.returns
unfolding ◌and◌ is
returns c =
    let p = c.requires in
    rw (own_count _ _ p.0 p.2 p.3 (rw c.block_at-b.ensures at (sym c.is_sender.ensures ∙ c.if-not-is_sender.false))) (simp (c.count.ensures _ in_group p.1, c.series_count-2.ensures, c.count_allowed.ensures, c.series_count.ensures, c.block_at-b.ensures))
