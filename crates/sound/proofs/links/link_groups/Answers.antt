-- Every group has its bucket.
use Rattle.std.proofs.Common.{rules}
use Rattle.sound.proofs.Laws.Groups.{grouped_inside, told_group, some_inside}
use Rattle.sound.proofs.links.link_groups.Goals as goal

pub link-requires : goal.link-requires
link-requires c = (c.requires.0, search rules, λ k g h t. some_inside (search rules) (grouped_inside c.args.us.now c.requires.1 k h))

pub returns-clause-links : goal.returns-clause-links
returns-clause-links c = c.link.ensures.links _ (λ k r h t. told_group _ r (search rules))
