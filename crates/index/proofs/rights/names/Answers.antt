-- The four tests, as in the definition.
use Rattle.laws.specs.Kit.{◌and◌, is}
use Rattle.paper.specs.Rules.{names}
use Rattle.index.proofs.rights.names.Goals as goal

pub returns : goal.returns
unfolding names ◌and◌ is
returns c =
    simp (
      c.same-3.ensures,
      c.agreement-2.ensures,
      c.agreement.ensures,
      c.contract_type-2.ensures,
      c.contract_type.ensures,
      c.same-2.ensures,
      c.out_area-2.ensures,
      c.out_area.ensures,
      c.same.ensures,
      c.in_area-2.ensures,
      c.in_area.ensures,
    )
