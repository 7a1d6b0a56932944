-- A series is linked in the bucket of its pair, and no other block is linked.
use Rattle.laws.specs.Kit.{◌∙◌}
use Rattle.std.proofs.Common.{rules}
use Rattle.paper.specs.Layout.{pair}
use Rattle.index.specs.Linked.{bucket, series_in}
use Rattle.index.specs.Linked.Laws.{told_where, series_out, series_told}
use Rattle.index.proofs.series_bucket.Goals as goal

pub returns : goal.returns
returns c =
    told_where series_in c.args.x.now _ (bucket (pair c.args.x.now)) _ (c.then.ensures.variant ∙ c.is_series.ensures) c.then.ensures.some (λ b k. search rules) (series_told _) (series_out _)
