-- The first block of the bucket is the first of those that p links.
use Rattle.laws.specs.Kit.{◌∙◌, sym}
use Rattle.laws.specs.Loops.{place_start}
use Rattle.index.specs.Linked.Laws.{in_bucket, first_of}
use Rattle.index.proofs.buckets.Buckets.find.Goals as goal

pub returns : goal.returns
returns g c =
    (λ l p q a n t. c.find_from.ensures.0 l _ q 0 (in_bucket p l _ a.go_on _ q _ 0 n t) (c.first.ensures.0 ∙ first_of p l _ _ a _ c.requires.0) ∙ sym (place_start q l), c.find_from.ensures.1)
