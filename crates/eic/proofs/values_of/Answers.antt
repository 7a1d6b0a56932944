-- The values written so far are those of the bytes so far.
use Rattle.laws.specs.Kit.{refl, sym, ap, ◌∙◌, arith, map, length-set, take_all}
use Rattle.paper.specs.Eic.{character_value}
use Rattle.eic.proofs.Laws.{values_more}
use Rattle.eic.proofs.values_of.Goals as goal

pub loop-i-init : goal.loop-i-init
loop-i-init c = (refl, refl)

pub loop-i-preserved : goal.loop-i-preserved
loop-i-preserved c =
    let l = c.loop-i in
    (length-set l.values l.i _ ∙ l.invariant.0, values_more c.args.s.now l.values l.i _ (omega arith) (omega arith) l.invariant.1 c.character_value.ensures)

pub returns : goal.returns
returns c =
    let l = c.loop-i in
    let s = c.args.s.now in
    sym (take_all l.i l.values (omega arith)) ∙ l.invariant.1 ∙ ap (map character_value) (take_all l.i s (omega arith))
