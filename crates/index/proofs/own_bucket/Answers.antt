-- A series of the sender is linked in the bucket of what it is sought by, and no other block is linked.
use Rattle.laws.specs.Kit.{◌∙◌}
use Rattle.std.proofs.Common.{rules}
use Rattle.index.specs.Linked.{bucket, hashed, own_in}
use Rattle.index.specs.Linked.Laws.{told_where, own_out, own_told}
use Rattle.index.proofs.own_bucket.Goals as goal

pub returns : goal.returns
returns c =
    told_where (own_in c.args.slot.0 c.args.by) c.args.x.now _ (bucket (hashed c.args.by c.args.x.now)) _ (c.then.ensures.variant ∙ c.is_series_of.ensures) c.then.ensures.some (λ b k. search rules) (own_told _ c.args.by _) (own_out _ _ _)
