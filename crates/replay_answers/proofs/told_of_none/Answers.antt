-- 0 is told what `sum` is; every other byte that is no tag lies behind the last, and is told what `sound` is.
use Rattle.std.specs.Prelude.{◌≤◌}
use Rattle.std.proofs.Common.{rules}
use Rattle.laws.specs.Kit.{⊎_elim, is, less}
use Rattle.stream.specs.Records.Laws.{unknown_tag}
use Rattle.stream.specs.Buffer.{buffer_numbers}
use Rattle.replay_answers.specs.Answers.{numbers_told}
use Rattle.replay_answers.specs.Answers.Laws.{behind_told}
use Rattle.replay_answers.proofs.told_of_none.Goals as goal

pub returns-then-tag-eq0 : goal.returns-then-tag-eq0
unfolding numbers_told buffer_numbers is less
returns-then-tag-eq0 c = λ body. rw c.if-tag-eq0.true c.sum_told.ensures

pub returns-else-tag-eq0 : goal.returns-else-tag-eq0
returns-else-tag-eq0 c =
    let behind : 28 ≤ c.args.tag = ⊎_elim (λ e. absurd (c.if-tag-eq0.false e)) (λ l. l) (unknown_tag c.args.tag c.requires) in
    λ body. rw (behind_told c.args.tag c.args.book.now body behind) (search rules)
