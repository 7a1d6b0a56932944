-- The lines still to put, over the buffer as it stands, give what all of them give over the buffer as it came.
use Rattle.laws.specs.Kit.{refl, step_cut_at, end_cut}
use Rattle.listing_text.proofs.Laws.Line.{lines_turn, lines_end}
use Rattle.std.proofs.Common.{rules}
use Rattle.listing_text.proofs.put_lines.Goals as goal

pub loop-i-init : goal.loop-i-init
loop-i-init c = (search rules, search rules, search rules, record { place = refl; bytes = refl })

pub loop-i-preserved : goal.loop-i-preserved
loop-i-preserved c =
    (search rules, search rules, search rules, lines_turn _ _ (step_cut_at _ _ _ c.loop-i-test.true) c.loop-i.invariant.3 c.put_slot-place.ensures.0)

pub returns : goal.returns
returns c = lines_end _ _ (end_cut _ _ _ c.loop-i-test.false) c.loop-i.invariant.3
