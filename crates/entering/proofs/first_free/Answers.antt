-- The slots behind the day block are counted up to the first free one.
use Rattle.std.specs.Prelude.{◌+◌, ◌*◌}
use Rattle.laws.specs.Kit.{ap}
use Rattle.slots.proofs.Laws.{used_counted}
use Rattle.entering.proofs.first_free.Goals as goal

pub returns : goal.returns
returns c =
    ap (λ k. 512 + 512 * k) (used_counted c.args.book.now _ c.used_count.ensures.0)
