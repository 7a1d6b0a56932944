-- A series that is on no right names none; another's is sought in the bucket of its agreement.
use Rattle.laws.specs.Kit.{sym, arith, ◌∙◌, ap}
use Rattle.std.proofs.Common.{rules}
use Rattle.index.specs.Linked.{bucket}
use Rattle.index.specs.Rights.Laws.{no_right, right_linked}
use Rattle.index.proofs.rights.right_of.Goals as goal

pub returns-then-not-with_capacity : goal.returns-then-not-with_capacity
returns-then-not-with_capacity c = (sym (no_right _ _ _ (sym c.with_capacity.ensures ∙ c.if-not-with_capacity.true)), omega arith)

pub returns : goal.returns
returns c =
    (c.find.ensures.0 _ _ _ c.requires (λ x t. rw (c.bucket.ensures.0 ∙ ap bucket c.agreement.ensures) (right_linked _ _ x t)) (λ j b h k. search rules), c.find.ensures.1)
