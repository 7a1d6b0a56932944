-- It is sought in the bucket of what y is sought by.
use Rattle.laws.specs.Kit.{◌∙◌, ap}
use Rattle.std.proofs.Common.{rules}
use Rattle.index.specs.Linked.{bucket}
use Rattle.index.specs.Linked.Laws.{own_linked}
use Rattle.index.proofs.own_with.Goals as goal

pub returns : goal.returns
returns c =
    (c.find.ensures.0 _ _ _ c.requires (λ x t. rw (c.bucket.ensures.0 ∙ ap bucket c.hashed.ensures) (own_linked _ _ _ x t)) (λ j b h k. search rules), c.find.ensures.1)
