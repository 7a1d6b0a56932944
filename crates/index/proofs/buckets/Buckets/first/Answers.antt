-- Each walk that begins at a head ends.
use Rattle.laws.specs.Kit.{refl}
use Rattle.index.specs.Ahead.Laws.{ends_most}
use Rattle.index.proofs.buckets.Buckets.first.Goals as goal

pub returns : goal.returns
returns c = let e = c.args.self.now.ends _ c.requires in (refl, ends_most _ _ e, e)
