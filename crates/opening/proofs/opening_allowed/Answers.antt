-- A block made of the parameters holds them in its fields, so that it is sound exactly when each passes its own test.
use Rattle.laws.specs.Kit.{arith, sym, ◌and◌}
use Rattle.layout.specs.Written.{opening_by}
use Rattle.opening.proofs.Laws.Judged.{opening_tested}
use Rattle.opening.proofs.opening_allowed.Goals as goal

pub returns : goal.returns
unfolding ◌and◌
returns c =
    let h = sym (opening_tested (opening_by c.args.given.now) (omega arith)) in
    rw h (simp (c.eic_valid-2.ensures, c.eic_valid.ensures, c.rule_allowed.ensures, c.day_well_formed.ensures, c.lead_allowed.ensures, c.n_allowed.ensures))
