-- The sums, raised from 0 by all series, are the nets.
use Rattle.laws.specs.Kit.{refl, true, ap, ◌∙◌, ◌and◌, is, rules}
use Rattle.laws.specs.Lists.{every}
use Rattle.paper.specs.Layout.{zeros, with_nets}
use Rattle.nets.proofs.Laws.Nets.{few_cut}
use Rattle.nets.proofs.Laws.Words.{nets_all}
use Rattle.nets.proofs.write_nets.Goals as goal

pub returns : goal.returns
unfolding zeros every is ◌and◌
returns c =
    c.put_nets.ensures
    ∙ ap (λ v. with_nets v c.args.s.now) (nets_all _ _ _ _ _ (few_cut c.args.series.now c.type_inv.series c.requires) refl (c.add_those.ensures (λ x. true) (λ x r e. search rules)))
