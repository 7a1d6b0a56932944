-- A byte that is not 0, the first one, already says that the block is used.
use Rattle.laws.specs.Kit.{sym, ◌∙◌}
use Rattle.paper.specs.Book.{is_free}
use Rattle.slots.proofs.Laws.{kind_used}
use Rattle.std.proofs.Common.{rules}
use Rattle.slots.proofs.is_free.Goals as goal

pub returns-then-kind-ne0 : goal.returns-then-kind-ne0
returns-then-kind-ne0 c = sym (kind_used _ (λ e. c.if-kind-ne0.true (c.kind.ensures ∙ e)))

pub returns : goal.returns
unfolding is_free
returns c = search rules
