-- The first places are counted, of which there are no more than a thousand.
use Rattle.std.specs.Prelude.{◌≡◌, count_by}
use Rattle.std.proofs.Common.{rules}
use Rattle.std.proofs.iter.runs.Made.{chains}
use Rattle.laws.specs.Kit.{arith, ◌∙◌, is, take, length-take}
use Rattle.laws.specs.Lists.{count}
use Rattle.laws.specs.Lists.Count.{count_length}
use Rattle.rules.proofs.Laws.{counted}
use Rattle.rules.proofs.whole.new_series.Goals as goal

pub returns : goal.returns
unfolding is
returns c =
    let l = take c.args.series c.args.places.now in
    let e : c.count.result ≡ count_by (λ place. is place 0) l = search (rules, chains) in
    let q : c.count.result ≡ count (λ place. is place 0) l = e ∙ counted (λ place. is place 0) l in
    (q, omega (arith, q, count_length (λ place. is place 0) l, length-take c.args.series c.args.places.now))
