-- The pieces passed stand in the line, and the next goes behind them.
use Rattle.std.specs.Prelude.{◌≡◌, ℕ, ◌<◌}
use Rattle.laws.specs.Kit.{refl, sym, List, length, get_or, add-one, drop-cons}
use Rattle.laws.specs.Loops.{Step, end_list}
use Rattle.stream.specs.Line.Laws.{pieces_none, pieces_more, pieces_end}
use Rattle.std.proofs.Common.{rules}
use Rattle.stream.proofs.line.put_each.Goals as goal

step_item : {A : Type 0} (l : List A) (i : ℕ) (x : A) → i < length l → x ≡ get_or l i x → Step l i x
step_item l i x h e = record { rest = rw (add-one i, drop-cons l i x h, sym e) refl }

pub loop-x-init : goal.loop-x-init
loop-x-init g c = (refl, λ piece puts. pieces_none _ _ _ c.requires.1)

pub loop-x-preserved : goal.loop-x-preserved
loop-x-preserved g c = (search rules, λ piece puts. pieces_more _ _ _ (step_item _ _ _ c.loop-x-test.true c.x-item.is) (c.loop-x.invariant.1 piece puts) (puts _ _ _ _ _ c.put_one-place.ensures))

pub returns : goal.returns
returns g c = λ piece puts. pieces_end _ _ _ (end_list _ _ c.loop-x-test.false) (c.loop-x.invariant.1 piece puts)
