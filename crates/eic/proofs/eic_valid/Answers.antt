-- The code is the check by the sum of all sixteen values.
use Rattle.laws.specs.Kit.{sym, ◌∙◌, ◌and◌, neg, is, is_other}
use Rattle.facts.specs.Eic.{eic_valid_says}
use Rattle.eic.proofs.Laws.{valid_by_sum}
use Rattle.eic.proofs.eic_valid.Goals as goal

pub returns-then-s-ne16 : goal.returns-then-s-ne16
unfolding ◌and◌
returns-then-s-ne16 c = sym (eic_valid_says _ ∙ rw (is_other _ _ c.if-s-ne16.true))

pub values_of-values-requires : goal.values_of-values-requires
values_of-values-requires c = c.if-s-ne16.false

pub returns : goal.returns
unfolding ◌and◌ neg is
returns c =
    sym
    (valid_by_sum c.args.s.now c.if-s-ne16.false
    ∙ rw (sym c.values_of-values.ensures, sym c.all_known.ensures, sym c.sum_of-sum.ensures, sym c.hyphen.ensures))
